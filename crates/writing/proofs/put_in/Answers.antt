-- The group makes room; then the mask has the offsets of the run's pages, its record's members, and the record can be inserted.
use Rattle.std.proofs.Common.{◌≡◌, ◌-◌, ◌<◌, ℕ, List, true, not, eqb, length, get_or, refl, sym, ap, ◌∙◌, arith}
use lib.ListN.{get_or-replicate}
use Rattle.model.specs.Lists.{elem}
use Rattle.model.specs.Record.{kind_of}
use Rattle.model.specs.Levels.{Group, record_count, insert}
use Rattle.model.specs.Sound.{sound_group}
use Rattle.record.specs.declared.Record.{Record}
use Rattle.record.specs.Scan.{masked}
use Rattle.group.specs.Reading.{read_group}
use Rattle.group.proofs.Holding.{sound-held}
use Rattle.insertion.specs.Ready.{Ready}
use Rattle.writing.specs.declared.Place.{Place}
use Rattle.writing.specs.Handed.{offsets_from, offsets_at, owned_of, owning}
use Rattle.writing.specs.Taking.{with_room, grown, Insertable}
use Rattle.writing.proofs.Places.{pages-inside}
use Rattle.writing.proofs.Rooms.{room_fits, room-sound}
use Rattle.writing.proofs.put_in.Goals as goal

-- from the bytes b₀, whose group has made room in b, and with the marks of the run's pages
module _ (b₀ b mask w taken : List ℕ) (p : Place) (e : ℕ) (r : Record) (pre : Insertable b₀ w taken p e r)
    (room : read_group b ≡ with_room (e - p.run) (read_group b₀)) (size : length b ≡ length b₀) (long : length mask ≡ 256)
    (marks : (o : ℕ) → o < 256 → masked mask o ≡ elem o (offsets_from w p.page (get_or taken p.run 0))) where
  sound : sound_group pre.bytes.N pre.bytes.number (read_group b) ≡ true
  sound = let a = pre.bytes in ap (sound_group a.N a.number) room ∙ room-sound _ _ a.N a.number a.sound

  ready : Ready b mask r
  unfolding owning
  ready = record {
    N = pre.bytes.N;
    number = pre.bytes.number;
    group = read_group b;
    owned = owned_of (kind_of r.word) (offsets_at w taken p.run);
    size = size ∙ pre.bytes.size;
    long = long;
    held = sound-held pre.bytes.N pre.bytes.number _ sound;
    sound = sound;
    few = omega (arith, ap (λ (g : Group). record_count g) room, pre.inside, room_fits (e - p.run) (read_group b₀) (omega (arith, pre.few)));
    fits = pre.sound;
    members = λ o h. marks o h ∙ ap (λ (x : ℕ). elem o (offsets_from w x (get_or taken p.run 0))) pre.page ∙ sym (pre.members o h);
  }

pub fill_mask-requires : goal.fill_mask-requires
fill_mask-requires c = (
  refl,
  λ o h. ap (λ (x : ℕ). not (eqb x 0)) (get_or-replicate 256 o 0 0 h),
  pages-inside _ _ _ c.requires.page _ _ c.requires.counted c.requires.inside,
)

pub insert-requires : goal.insert-requires
insert-requires c = ready _ _ _ _ _ _ _ _ c.requires c.make_room.ensures c.make_room.auto.b c.fill_mask.auto.mask c.fill_mask.ensures

pub returns : goal.returns
unfolding ready owning grown
returns c =
    let so = ready _ _ _ _ _ _ _ _ c.requires c.make_room.ensures c.make_room.auto.b c.fill_mask.auto.mask c.fill_mask.ensures in
    (c.insert.ensures so).1 ∙ ap (insert _) c.make_room.ensures
