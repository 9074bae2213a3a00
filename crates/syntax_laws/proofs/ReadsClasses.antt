-- What the grammar derives is read: name classes.
use Rattle.std.proofs.Common.{zero-le, Bool, true, false, List, [], ◌∷◌, refl}
use Rattle.token_laws.specs.Tokens.{Placed}
use Rattle.grammar_laws.specs.Trees.{Class, Classes}
use Rattle.grammar_laws.specs.Grammar.{ReadsClass, ReadsAlternatives, ReadsSimple, ReadsBareClass, ReadsClassExcept}
use Rattle.grammar_laws.specs.Grammar as by
use Rattle.grammar_laws.proofs.Ends.{Stops, class_rank, no_class_follows}
use Rattle.grammar_laws.proofs.Classes.{bare_no_bracket, except_no_bracket, inner_end, bar_end, last_end}
use Rattle.syntax_laws.specs.Expecting.{Stands}
use Rattle.syntax_laws.specs.Expecting as part
use Rattle.syntax_laws.proofs.Local.{turns, takes, no_parts, joins}
use Rattle.syntax_laws.proofs.Stops.{classes_end, class_except_ends, name_passes, class_name}
use Rattle.syntax_laws.proofs.ReadsLeaves.{blocks_read, follow_read}

mutual
  pub class_read : {ts us : List Placed} {c : Class} → ReadsClass ts us c → Stops class_rank 0 us → Stands (part.class ∷ []) ts [] us
  class_read (by.ReadsClass.single {us = us} s) e = turns refl (joins (simple_read s (last_end us e)) (turns (classes_end us e) no_parts))
  class_read (by.ReadsClass.choice s r) e = turns refl (joins (simple_read s bar_end) (takes refl (alternatives_read r e)))

  alternatives_read : {ts us : List Placed} {cs : Classes} → ReadsAlternatives ts us cs → Stops class_rank 0 us → Stands (part.class ∷ []) ts [] us
  alternatives_read (by.ReadsAlternatives.last {us = us} s) e = turns refl (joins (simple_read s (last_end us e)) (turns (classes_end us e) no_parts))
  alternatives_read (by.ReadsAlternatives.more s r) e = turns refl (joins (simple_read s bar_end) (takes refl (alternatives_read r e)))

  simple_read : {ts us : List Placed} {c : Class} → ReadsSimple ts us c → Stops class_rank 2 us → Stands (part.simple ∷ []) ts [] us
  simple_read (by.simple {ws = ws} b c f) e = turns refl (joins (blocks_read b (bare_no_bracket c)) (joins (bare_read true c (inner_end f e)) (follow_read f (no_class_follows ws e))))
  simple_read (by.ReadsSimple.except {ws = ws} b c f) e = turns refl (joins (blocks_read b (except_no_bracket c)) (joins (except_read c (inner_end f e)) (follow_read f (no_class_follows ws e))))

  bare_read : (b : Bool) {ts us : List Placed} {c : Class} → ReadsBareClass ts us c → Stops class_rank 3 us → Stands (part.bare_class b ∷ []) ts [] us
  bare_read b (by.plain {t = t} {n = n} i) e = turns (class_name b t n i) (takes (name_passes t n i) no_parts)
  bare_read b by.prefixed e = turns refl (takes refl no_parts)
  bare_read b (by.ReadsBareClass.parentheses c) e = turns refl (takes refl (joins (class_read c zero-le) (takes refl no_parts)))
  bare_read b (by.any {ts = ts}) e = turns refl (takes refl (turns (class_except_ends b ts e) no_parts))
  bare_read b (by.ReadsBareClass.namespace {ts = ts}) e = turns refl (takes refl (turns (class_except_ends b ts e) no_parts))

  except_read : {ts us : List Placed} {c : Class} → ReadsClassExcept ts us c → Stops class_rank 3 us → Stands (part.bare_class true ∷ []) ts [] us
  except_read (by.any_except b c) e = turns refl (takes refl (takes refl (joins (blocks_read b (bare_no_bracket c)) (bare_read false c e))))
  except_read (by.namespace_except b c) e = turns refl (takes refl (takes refl (joins (blocks_read b (bare_no_bracket c)) (bare_read false c e))))
