-- The run's group is that of its first page, and its part of the state is lent; its runs end where `end_of` says, and the next run's
-- pages come behind.
use Rattle.std.proofs.Common.{◌≡◌, ◌+◌, ◌-◌, ◌/◌, ◌<◌, ℕ, List, ◌++◌, true, length, get_or, set, take, drop, refl, sym, ap, ◌∙◌, subst, arith}
use Rattle.model.specs.Device.{Device, group_count, group_length}
use Rattle.model.specs.Levels.{Group}
use Rattle.model.specs.State.{with_groups, group_at}
use Rattle.model.specs.Sound.{sound_record, sound_group}
use Rattle.model.proofs.SoundGroups.{group_sound}
use Rattle.record.specs.declared.Record.{Record}
use Rattle.group.specs.Reading.{read_group}
use Rattle.state.specs.Reading.{read_state, group_place}
use Rattle.state.proofs.Handing.{GroupPart, lent, part_replaced}
use Rattle.writing.specs.declared.Place.{Place}
use Rattle.writing.specs.Handed.{run_group, owning, runs_end, Counted}
use Rattle.writing.specs.Taking.{grown, put_in, Insertable, InTurn}
use Rattle.writing.proofs.Places.{place_next, group_here, pages-inside, page-inside, fewer}
use Rattle.writing.proofs.RunsEnd.{end-behind, end_stays}
use Rattle.writing.proofs.Passing.{group_exists}
use Rattle.writing.proofs.put_in_run.Goals as goal

module _ (d : Device) (w taken : List ℕ) (n : ℕ) (s : List ℕ) (p : Place) (r : Record) (turn : InTurn d w taken n (read_state s) p r) where
  -- its group is the first page's, and the device has it
  abbrev k : ℕ
  k = get_or w p.page 0 / 256

  group : k ≡ run_group w taken p.run
  group = group_here _ _ _ turn.located.page _

  exists : k < group_count d
  exists = omega (arith, group, group_exists d _ _ _ _ turn.sorted turn.inside)

  -- the group's part from a to e, where its runs end at `end`
  module _ (a e end : ℕ) (start : a ≡ group_place d k) (stop : e ≡ group_place d k + group_length) (ends : end ≡ runs_end w taken n p.run) where
    abbrev part : GroupPart s k a e
    part = lent d s turn.shaped k a e exists start stop

    insertable : Insertable (take (e - a) (drop a s)) w taken p end r
    unfolding group_at
    insertable =
        let behind = end-behind w taken n p.run turn.inside in
        record {
          bytes = record { N = d.N; number = k; size = part.size; sound = ap (sound_group d.N k) part.group ∙ group_sound _ _ _ turn.groups };
          counted = subst (Counted _ _) (sym ends) (fewer _ _ _ _ behind.1 turn.sorted.counted);
          inside = omega (arith, ends, behind.0);
          few = omega (arith, ends, behind.1, turn.sorted.few);
          page = turn.located.page;
          members = turn.members;
          sound = subst (λ (j : ℕ). sound_record d.N j (owning w taken p.run r) ≡ true) (sym group) turn.sound;
        }

    put_back : (b : List ℕ) → length b ≡ length (take (e - a) (drop a s)) → read_group b ≡ grown w taken p.run end r (read_group (take (e - a) (drop a s)))
        → read_state (take a s ++ (b ++ drop (e - a) (drop a s))) ≡ put_in w taken n p.run r (read_state s)
    unfolding put_in
    put_back b size is =
        part_replaced d s turn.shaped k a e exists start stop b size
        ∙ ap (λ (g : Group). with_groups (set (read_state s).groups k g) (read_state s)) (is ∙ ap (grown _ _ _ _ _) part.group)
        ∙ rw (group, ends) refl

pub offset_bounds-written-p : goal.offset_bounds-written-p
offset_bounds-written-p c = omega (arith, page-inside _ _ _ c.requires.located.page _ _ c.requires.sorted.counted c.requires.inside)

pub bounds-written-p : goal.bounds-written-p
bounds-written-p c = page-inside _ _ _ c.requires.located.page _ _ c.requires.sorted.counted c.requires.inside

pub end_of-end-requires : goal.end_of-end-requires
end_of-end-requires c = (c.requires.sorted.counted, omega (arith, c.requires.inside), c.requires.located, group_here _ _ _ c.requires.located.page _)

pub group_place-a-requires : goal.group_place-a-requires
group_place-a-requires c = omega (arith, exists _ _ _ _ _ _ _ c.requires)

pub group_end-e-requires : goal.group_end-e-requires
group_end-e-requires c = omega (arith, exists _ _ _ _ _ _ _ c.requires)

pub slice_bounds-put_in-end : goal.slice_bounds-put_in-end
slice_bounds-put_in-end c = omega (arith, (part _ _ _ _ _ _ _ c.requires _ _ _ c.group_place-a.ensures c.group_end-e.ensures c.end_of-end.ensures).inside)

pub put_in-requires : goal.put_in-requires
put_in-requires c = insertable _ _ _ _ _ _ _ c.requires _ _ _ c.group_place-a.ensures c.group_end-e.ensures c.end_of-end.ensures

pub overflow_add-result-2 : goal.overflow_add-result-2
overflow_add-result-2 c = omega (arith, pages-inside _ _ _ c.requires.located.page _ _ c.requires.sorted.counted c.requires.inside)

pub returns-then-i-end : goal.returns-then-i-end
returns-then-i-end c =
    let ends = c.end_of-end.ensures in (
      omega arith,
      record {
        page = place_next _ _ _ c.requires.located.page;
        end = λ e q. let is : c.end_of-end.result ≡ e = cc in sym is ∙ ends ∙ end_stays _ _ _ _ c.requires.inside (omega (arith, ends, c.if-i-end.true));
      },
      put_back _ _ _ _ _ _ _ c.requires _ _ _ c.group_place-a.ensures c.group_end-e.ensures ends _ c.put_in.auto.b c.put_in.ensures,
    )

pub returns-else-i-end : goal.returns-else-i-end
returns-else-i-end c = (
  omega arith,
  record { page = place_next _ _ _ c.requires.located.page; end = λ e q. absurd cc },
  put_back _ _ _ _ _ _ _ c.requires _ _ _ c.group_place-a.ensures c.group_end-e.ensures c.end_of-end.ensures _ c.put_in.auto.b c.put_in.ensures,
)
