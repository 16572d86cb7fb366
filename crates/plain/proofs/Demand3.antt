-- Demand 3 of the plain engine: the page map meets it, and the engine simulates the page map. Assumes nothing.
use Rattle.calls.specs.Demand3.{page_maps}
use Rattle.calls.proofs.MapDemand.{map_demand}
use Rattle.calls.proofs.Simulation.{carry}
use Rattle.plain.specs.Machine.{tables, Demand3}
use Rattle.plain.proofs.Refining.{Shows, refines}

pub plain_demand_3 : Demand3
plain_demand_3 = carry tables page_maps Shows refines map_demand
