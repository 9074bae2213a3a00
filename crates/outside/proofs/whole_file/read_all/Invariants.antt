use Rattle.std.proofs.Common.{◌≡◌, ◌+◌, ◌-◌, ◌≤◌, vec_len, IsTrue, length}
use Rattle.outside.specs.Counts.{RisesAtMost}
use Rattle.outside.specs.Devices.{IsRestAfter}
use Rattle.outside.proofs.whole_file.read_all.Given as goal

abbrev pub invariant-loop-count : goal.invariant-loop-count
invariant-loop-count g l = record {
  current : IsTrue (g.F.Shelf.has_current l.shelf);
  files : g.F.Shelf.files l.shelf ≡ g.F.Shelf.files l.fn.shelf;
  rest : IsRestAfter (g.F.Shelf.files l.fn.shelf) l.name l.bytes.items (g.F.Shelf.left l.shelf);
  short : vec_len l.bytes ≤ l.limit;
  buffer : length l.buffer ≡ 16384;
  faults : g.F.Shelf.faults l.shelf ≡ g.F.Shelf.faults l.fn.shelf;
  misses : g.F.Shelf.misses l.shelf ≡ g.F.Shelf.misses l.fn.shelf;
  calls : RisesAtMost (vec_len l.bytes + 1) (g.F.Shelf.calls l.fn.shelf) (g.F.Shelf.calls l.shelf);
}

abbrev pub decreases-loop-count : goal.decreases-loop-count
decreases-loop-count g l = l.limit - vec_len l.bytes
