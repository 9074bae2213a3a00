-- What the grammar derives is read: whole files. The reader tells a pattern from items behind annotations and a name.
use Rattle.std.proofs.Common.{◌≡◌, true, false, List, [], ◌∷◌, ◌++◌, length, refl}
use Rattle.token_laws.specs.Tokens.{Token, keyword, ident, cname, ns_name, segment, symbol, Placed, ◌at◌, open_bracket, equals, bar_equals, ampersand_equals}
use Rattle.token_laws.specs.Tokens as word
use Rattle.grammar_laws.specs.Trees.{Body, File}
use Rattle.grammar_laws.specs.Grammar.{DerivesBody, Derives}
use Rattle.grammar_laws.specs.Grammar as by
use Rattle.grammar_laws.proofs.Trees.{body_begins}
use Rattle.grammar_laws.specs.Prefixes.{AgreeThrough}
use Rattle.syntax_laws.specs.Expecting.{Part, become, first, next, Runs, stay, passes, becomes, Stands, Sticks}
use Rattle.syntax_laws.specs.Expecting as part
use Rattle.syntax_laws.proofs.Local.{run_on, ended, Parted, parted, in_two, joins, stands_to_end, no_end, refused_rest}
use Rattle.syntax_laws.proofs.ReadsLeaves.{declarations_read}
use Rattle.syntax_laws.proofs.ReadsPatterns.{pattern_read, items_read}

-- A pattern up to the end.

abbrev behind_bare : List Part
behind_bare = part.follow ∷ part.postfix ∷ part.more_patterns ∷ part.end ∷ []

-- a pattern's name stands before no block and no assignment sign
plain_behind : (ts us : List Placed) → Runs behind_bare ts [] us → next part.named_body (first ts) ≡ become (part.follow ∷ part.postfix ∷ part.more_patterns ∷ [])
plain_behind [] us r = refl
plain_behind (symbol open_bracket at a ∷ ts) us r = absurd (ended (ended (ended (ended r))))
plain_behind (symbol equals at a ∷ ts) us r = absurd (ended (ended (ended (ended r))))
plain_behind (symbol bar_equals at a ∷ ts) us r = absurd (ended (ended (ended (ended r))))
plain_behind (symbol ampersand_equals at a ∷ ts) us r = absurd (ended (ended (ended (ended r))))
plain_behind (t at a ∷ ts) us r = refl

unassigned_behind : (ts us : List Placed) → Runs behind_bare ts [] us → next part.annotated_name (first ts) ≡ become (part.follow ∷ part.postfix ∷ part.more_patterns ∷ [])
unassigned_behind [] us r = refl
unassigned_behind (symbol equals at a ∷ ts) us r = absurd (ended (ended (ended (ended r))))
unassigned_behind (symbol bar_equals at a ∷ ts) us r = absurd (ended (ended (ended (ended r))))
unassigned_behind (symbol ampersand_equals at a ∷ ts) us r = absurd (ended (ended (ended (ended r))))
unassigned_behind (t at a ∷ ts) us r = refl

typed_behind : (ts us : List Placed) → Runs (part.typed true ∷ behind_bare) ts [] us → next part.typed_body (first ts) ≡ become (part.typed true ∷ part.follow ∷ part.postfix ∷ part.more_patterns ∷ [])
typed_behind [] us r = refl
typed_behind (symbol open_bracket at a ∷ ts) us r = absurd (ended (ended (ended (ended (ended (ended (ended r)))))))
typed_behind (t at a ∷ ts) us r = refl

annotated_pattern : (ts us : List Placed) → Runs (part.bare true ∷ behind_bare) ts [] us → Runs (part.annotated_body ∷ part.end ∷ []) ts [] us
annotated_pattern [] us r = absurd (ended r)
annotated_pattern (ident n at a ∷ ts) us r = let s = ended (ended r) in becomes refl (passes refl (becomes (unassigned_behind ts us s) s))
annotated_pattern (keyword word.start at a ∷ ts) us r = absurd (ended r)
annotated_pattern (keyword word.div at a ∷ ts) us r = absurd (ended r)
annotated_pattern (keyword word.include at a ∷ ts) us r = absurd (ended r)
annotated_pattern (symbol open_bracket at a ∷ ts) us r = absurd (ended r)
annotated_pattern (t at a ∷ ts) us r = becomes refl r

annotated : {ts us : List Placed} → Parted (part.blocks ∷ []) (part.bare true ∷ behind_bare) ts us → Runs (part.blocks ∷ part.annotated_body ∷ part.end ∷ []) ts [] us
annotated {us = us} (parted {vs = vs} s r) = run_on (s.runs (part.annotated_body ∷ part.end ∷ [])) (annotated_pattern vs us r)

-- a pattern's annotations, what is bare in it, and what stands behind that
opened : {ts us : List Placed} → Runs (part.pattern ∷ part.end ∷ []) ts [] us → Runs (part.blocks ∷ part.bare true ∷ behind_bare) ts [] us
opened r = ended (ended (ended r))

pattern_body : (ts us : List Placed) → Runs (part.pattern ∷ part.end ∷ []) ts [] us → Runs (part.body ∷ part.end ∷ []) ts [] us
pattern_body [] us r = absurd (ended (ended (opened r)))
pattern_body (symbol open_bracket at a ∷ ts) us r = becomes refl (annotated (in_two (part.blocks ∷ []) (part.bare true ∷ behind_bare) (opened r) refl))
pattern_body (ident n at a ∷ ts) us r = let s = ended (ended (ended (opened r))) in becomes refl (passes refl (becomes (plain_behind ts us s) s))
pattern_body (cname p n at a ∷ ts) us r = let s = ended (ended (ended (opened r))) in becomes refl (passes refl (becomes (typed_behind ts us s) s))
pattern_body (keyword word.start at a ∷ ts) us r = absurd (ended (ended (opened r)))
pattern_body (keyword word.div at a ∷ ts) us r = absurd (ended (ended (opened r)))
pattern_body (keyword word.include at a ∷ ts) us r = absurd (ended (ended (opened r)))
pattern_body (t at a ∷ ts) us r = becomes refl r

-- Items up to the end.

abbrev items_to_end : List Part
items_to_end = part.items false ∷ part.end ∷ []

-- behind the name of an item stands a block or an assignment sign
named_items : (ts us : List Placed) → Runs (part.behind_name ∷ items_to_end) ts [] us → Runs (part.named_body ∷ part.end ∷ []) ts [] us
named_items [] us r = absurd (ended (ended r))
named_items (symbol open_bracket at a ∷ ts) us r = becomes refl (ended r)
named_items (symbol equals at a ∷ ts) us r = becomes refl (ended r)
named_items (symbol bar_equals at a ∷ ts) us r = becomes refl (ended r)
named_items (symbol ampersand_equals at a ∷ ts) us r = becomes refl (ended r)
named_items (t at a ∷ ts) us r = absurd (ended (ended r))

prefixed_items : (ts us : List Placed) → Runs (part.block ∷ items_to_end) ts [] us → Runs (part.typed_body ∷ part.end ∷ []) ts [] us
prefixed_items [] us r = absurd (ended (ended r))
prefixed_items (symbol open_bracket at a ∷ ts) us r = becomes refl r
prefixed_items (t at a ∷ ts) us r = absurd (ended (ended r))

assigned_items : (ts us : List Placed) → Runs (part.assign ∷ part.pattern ∷ items_to_end) ts [] us → Runs (part.annotated_name ∷ part.end ∷ []) ts [] us
assigned_items [] us r = absurd (ended r)
assigned_items (symbol equals at a ∷ ts) us r = becomes refl r
assigned_items (symbol bar_equals at a ∷ ts) us r = becomes refl r
assigned_items (symbol ampersand_equals at a ∷ ts) us r = becomes refl r
assigned_items (t at a ∷ ts) us r = absurd (ended r)

annotated_item : (ts us : List Placed) → Runs (part.item false ∷ items_to_end) ts [] us → Runs (part.annotated_body ∷ part.end ∷ []) ts [] us
annotated_item (keyword word.start at a ∷ ts) us r = becomes refl r
annotated_item (keyword word.div at a ∷ ts) us r = becomes refl r
annotated_item (keyword word.include at a ∷ ts) us r = becomes refl r
annotated_item (ident n at a ∷ ts) us r = becomes refl (passes refl (assigned_items ts us (ended (ended r))))
annotated_item (symbol open_bracket at a ∷ ts) us r = absurd (ended r)
annotated_item [] us r = absurd (ended r)
annotated_item (t at a ∷ ts) us r = absurd (ended r)

annotated_items : {ts us : List Placed} → Parted (part.blocks ∷ []) (part.item false ∷ items_to_end) ts us → Runs (part.blocks ∷ part.annotated_body ∷ part.end ∷ []) ts [] us
annotated_items {us = us} (parted {vs = vs} s r) = run_on (s.runs (part.annotated_body ∷ part.end ∷ [])) (annotated_item vs us r)

items_body : (ts us : List Placed) → Runs items_to_end ts [] us → Runs (part.body ∷ part.end ∷ []) ts [] us
items_body [] us r = becomes refl r
items_body (keyword word.start at a ∷ ts) us r = becomes refl r
items_body (keyword word.div at a ∷ ts) us r = becomes refl r
items_body (keyword word.include at a ∷ ts) us r = becomes refl r
items_body (ident n at a ∷ ts) us r = becomes refl (passes refl (named_items ts us (ended (ended (ended (ended r))))))
items_body (cname p n at a ∷ ts) us r = becomes refl (passes refl (prefixed_items ts us (ended (ended (ended r)))))
items_body (symbol open_bracket at a ∷ ts) us r = becomes refl (annotated_items (in_two (part.blocks ∷ []) (part.item false ∷ items_to_end) (ended (ended r)) refl))
items_body (t at a ∷ ts) us r = absurd (ended (ended r))

body_read : {ts : List Placed} {b : Body} → DerivesBody ts b → Stands (part.body ∷ part.end ∷ []) ts [] []
body_read {ts = ts} (by.DerivesBody.pattern p) = stands_to_end (pattern_body ts [] (run_on ((pattern_read p tt).runs (part.end ∷ [])) (becomes refl stay)))
body_read {ts = ts} (by.DerivesBody.items is) = stands_to_end (items_body ts [] (run_on ((items_read false is tt tt).runs (part.end ∷ [])) (becomes refl stay)))

-- the tokens of a file are read
pub file_read : (ts : List Placed) (f : File) → Derives ts f → Stands (part.declarations ∷ part.body ∷ part.end ∷ []) ts [] []
file_read ts f (by.top ds b) = joins (declarations_read ds (body_begins b)) (body_read b)

-- where the reader is refused, no tokens that are the same through that token are a file
pub nothing_behind : (ts before us vs : List Placed) (f : File) → Sticks (part.declarations ∷ part.body ∷ part.end ∷ []) ts us → ts ≡ before ++ us → AgreeThrough (length before) ts vs → Derives vs f → ⊥
nothing_behind ts before us vs f (ys, s, h) same agree d = no_end (s.runs []) (refused_rest ys us h) before vs [] same agree ((file_read vs f d).runs [])
