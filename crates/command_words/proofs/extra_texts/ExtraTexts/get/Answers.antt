use Rattle.std.proofs.Common.{map, string_bytes, arith, codes, sym, ◌∙◌, ap, Some}
use Rattle.command_words.proofs.ExtraWords.{text_of, has_text, behind_text}
use Rattle.command_words.proofs.extra_texts.ExtraTexts.get.Goals as goal

pub unwrap-requires : goal.unwrap-requires
unwrap-requires c =
    let found = text_of string_bytes c.self.inside.words.now c.args.self.now c.args.position c.index-words-position.result c.self.view_is c.self.invariant c.requires c.index-words-position.is in
    has_text c.behind.result c.as_str.result.now found.0 (c.as_str.ensures.value ∙ found.2) c.behind.ensures.none

pub returns-clause-text : goal.returns-clause-text
returns-clause-text c =
    let found = text_of string_bytes c.self.inside.words.now c.args.self.now c.args.position c.index-words-position.result c.self.view_is c.self.invariant c.requires c.index-words-position.is in
    let same = behind_text c.behind.result c.unwrap.result c.as_str.result.now found.0 c.unwrap.ensures c.behind.ensures.some (c.as_str.ensures.value ∙ found.2) in
    found.1 ∙ ap Some same

pub returns-clause-extra : goal.returns-clause-extra
returns-clause-extra c =
    let found = text_of string_bytes c.self.inside.words.now c.args.self.now c.args.position c.index-words-position.result c.self.view_is c.self.invariant c.requires c.index-words-position.is in
    let same = behind_text c.behind.result c.unwrap.result c.as_str.result.now found.0 c.unwrap.ensures c.behind.ensures.some (c.as_str.ensures.value ∙ found.2) in
    rw same at found.3
