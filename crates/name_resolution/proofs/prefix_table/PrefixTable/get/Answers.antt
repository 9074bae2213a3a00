use Rattle.std.proofs.Common.{ap, ◌∙◌, option_map, ℕ, List, Bor, Option}
use Rattle.name_resolution.proofs.Tables.{look_up_entries}
use Rattle.name_resolution.proofs.prefix_table.PrefixTable.get.Goals as goal

pub returns : goal.returns
returns c = rw (← c.self.view_is) (rw look_up_entries (ap (λ (o : Option (Bor (List ℕ))). option_map (λ (u : Bor (List ℕ)). u.now) o) (c.copied.ensures ∙ c.get.ensures.value)))
