-- What the crate's values stand for: the device numbers as the model's device. Assumes nothing.
use Rattle.model.specs.Device.{Device}
use Rattle.front.specs.declared.Numbers.{Numbers}
use Rattle.front.specs.declared.Head.{Head}

-- the device that the numbers give
abbrev pub numbers_of : Numbers → Device
numbers_of d = record { M = d.m; B = d.b; N = d.n; g = d.g }

-- and the one that four numbers give before they are checked
abbrev pub device_in : Head → Device
device_in h = record { M = h.m; B = h.b; N = h.n; g = h.g }
