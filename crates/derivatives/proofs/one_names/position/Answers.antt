use Rattle.derivatives.proofs.OneNames.{one_found}
use Rattle.derivatives.proofs.one_names.position.Goals as goal

pub returns-in-Some : goal.returns-in-Some
returns-in-Some c =
    one_found _ _ _ _ _ _ _ c.elements-names.ensures.ascending c.parts.ensures c.in-len1.len_at_least c.in-len1.len_below c.part-item.is c.in-Some.ensures
    c.find_element.ensures.found
