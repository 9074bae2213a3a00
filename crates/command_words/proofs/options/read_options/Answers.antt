use Rattle.command_words.proofs.OptionWords.{no_page, no_limit, no_fresh, no_texts, are_options}
use Rattle.command_words.proofs.options.read_options.Goals as goal

pub returns-in_default-clause-none : goal.returns-in_default-clause-none
returns-in_default-clause-none c = no_page _ c.option.new.self _ c.in_default.ensures

pub returns-in_default-option-clause-none : goal.returns-in_default-option-clause-none
returns-in_default-option-clause-none c = no_limit _ _ c.option-2.new.self _ _ c.in-Ok.ensures c.in_default-option.ensures

pub returns-in_default-option-2-clause-none : goal.returns-in_default-option-2-clause-none
returns-in_default-option-2-clause-none c = no_fresh _ _ _ c.option-3.new.self _ _ _ c.in-Ok.ensures c.in-Ok-option.ensures c.in_default-option-2.ensures

pub returns-in_default-texts-clause-none : goal.returns-in_default-texts-clause-none
returns-in_default-texts-clause-none c = no_texts _ _ _ _ _ _ _ c.in-Ok.ensures c.in-Ok-option.ensures c.in-Ok-option-2.ensures c.in_default-texts.ensures.none

pub returns-clause-some : goal.returns-clause-some
returns-clause-some c = are_options _ _ _ _ _ _ _ c.in-Ok.ensures c.in-Ok-option.ensures c.in-Ok-option-2.ensures _ c.in-Some.ensures.texts c.in-Some.ensures.few
