-- One position goes to the block that is split off.
use Rattle.std.proofs.Common.{refl}
use Rattle.std.proofs.lemmas.Option.{slice_get_read}
use Rattle.name_universe.proofs.Splitting.{split_one}
use Rattle.name_universe.proofs.partition.Partition.split_off.Goals as goal

pub returns : goal.returns
returns c =
    let (k, is, taken) = c.in_ok-self.ensures in
    split_one c.args.self.now.blocks.items c.args.position c.args.class c.index-block.result.now c.in_ok-self.field-0 k _ _ c.requires (slice_get_read c.args.self.now.blocks.items _ c.args.position _ refl c.requires c.index-block.ensures) is taken
