use Rattle.list_command.proofs.Decided.{AreLaws, one_fault, not_both, same_schema}
use Rattle.list_command.proofs.laws.schemas_are_decided.Goals as goal

pub returns : goal.returns
returns c =
    let laws : AreLaws = record {
      lexed_once = c.one_token_list.ensures;
      refused_once = c.one_lex_refusal.ensures;
      lexed_or_refused = c.tokens_or_refusal.ensures;
      derived_once = c.one_tree.ensures;
      unparsed_once = c.one_parse_refusal.ensures;
      parsed_or_refused = c.tree_or_refusal.ensures;
      formed_once = c.one_simple_form.ensures;
      unformed_once = c.one_refusal.ensures;
      formed_or_refused = c.no_form_with_a_refusal.ensures;
    } in
    record { one_fault = one_fault laws; not_both = not_both laws; one_schema = same_schema laws }
