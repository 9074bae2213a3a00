-- What nodes show they still show when more is added.
use Rattle.std.proofs.Common.{ℕ, ◌<◌, inl, inr, List, length, arith}
use Rattle.derivative_laws.proofs.Members.{IsIn}
use Rattle.std.proofs.lemmas.Option.{slice_get_within}
use Rattle.grammar_laws.specs.Trees.{Pattern, Patterns}
use Rattle.grammar_laws.specs.Files.{SchemaFile}
use Rattle.simple_form_laws.specs.Parts.{Scope}
use Rattle.schema_graph.specs.declared.node.Node.{Node}
use Rattle.schema_graph.specs.Shown.{Key, Shows, ShowEach, IsKind}
use Rattle.schema_graph.specs.Shown as by
use Rattle.tree_graph.specs.States.{Begins}
use Rattle.tree_graph.proofs.Lists.{get_begins}

module _ (fs : List SchemaFile) (nodes further : List Node) (keys more : List Key) (g : Begins nodes further) (h : Begins keys more) where
  pub kind_grows : {of : _} {k : _} → IsKind fs nodes keys of k → IsKind fs further more of k
  kind_grows by.untyped = by.untyped
  kind_grows (by.typed e) = by.typed e

  mutual
    pub shows_grows : {i : ℕ} {s : Scope} {p : Pattern} → Shows fs nodes keys i s p → Shows fs further more i s p
    shows_grows (by.element e c w) = by.element (get_begins nodes further _ _ g e) c (shows_grows w)
    shows_grows (by.attribute e c w) = by.attribute (get_begins nodes further _ _ g e) c (shows_grows w)
    shows_grows (by.group e w) = by.group (get_begins nodes further _ _ g e) (each_grows w)
    shows_grows (by.choice e w) = by.choice (get_begins nodes further _ _ g e) (each_grows w)
    shows_grows (by.interleave e w) = by.interleave (get_begins nodes further _ _ g e) (each_grows w)
    shows_grows (by.optional e w) = by.optional (get_begins nodes further _ _ g e) (shows_grows w)
    shows_grows (by.zero_or_more e w) = by.zero_or_more (get_begins nodes further _ _ g e) (shows_grows w)
    shows_grows (by.one_or_more e w) = by.one_or_more (get_begins nodes further _ _ g e) (shows_grows w)
    shows_grows (by.mixed e w) = by.mixed (get_begins nodes further _ _ g e) (shows_grows w)
    shows_grows (by.ref e k) = by.ref (get_begins nodes further _ _ g e) (get_begins keys more _ _ h k)
    shows_grows (by.parent e k) = by.parent (get_begins nodes further _ _ g e) (get_begins keys more _ _ h k)
    shows_grows (by.grammar e k) = by.grammar (get_begins nodes further _ _ g e) (get_begins keys more _ _ h k)
    shows_grows (by.empty e) = by.empty (get_begins nodes further _ _ g e)
    shows_grows (by.any_text e) = by.any_text (get_begins nodes further _ _ g e)
    shows_grows (by.not_allowed e) = by.not_allowed (get_begins nodes further _ _ g e)
    shows_grows (by.value e k) = by.value (get_begins nodes further _ _ g e) (kind_grows k)
    shows_grows (by.data_type e k) = by.data_type (get_begins nodes further _ _ g e) k
    shows_grows (by.data_except e k w) = by.data_except (get_begins nodes further _ _ g e) k (shows_grows w)

    pub each_grows : {is : List ℕ} {s : Scope} {ps : Patterns} → ShowEach fs nodes keys is s ps → ShowEach fs further more is s ps
    each_grows by.none = by.none
    each_grows (by.more w ws) = by.more (shows_grows w) (each_grows ws)

-- a node that shows something is there
module _ (fs : List SchemaFile) (nodes : List Node) (keys : List Key) where
  pub shown_within : {i : ℕ} {s : Scope} {p : Pattern} → Shows fs nodes keys i s p → i < length nodes
  shown_within (by.element e c w) = slice_get_within nodes _ _ e
  shown_within (by.attribute e c w) = slice_get_within nodes _ _ e
  shown_within (by.group e w) = slice_get_within nodes _ _ e
  shown_within (by.choice e w) = slice_get_within nodes _ _ e
  shown_within (by.interleave e w) = slice_get_within nodes _ _ e
  shown_within (by.optional e w) = slice_get_within nodes _ _ e
  shown_within (by.zero_or_more e w) = slice_get_within nodes _ _ e
  shown_within (by.one_or_more e w) = slice_get_within nodes _ _ e
  shown_within (by.mixed e w) = slice_get_within nodes _ _ e
  shown_within (by.ref e k) = slice_get_within nodes _ _ e
  shown_within (by.parent e k) = slice_get_within nodes _ _ e
  shown_within (by.grammar e k) = slice_get_within nodes _ _ e
  shown_within (by.empty e) = slice_get_within nodes _ _ e
  shown_within (by.any_text e) = slice_get_within nodes _ _ e
  shown_within (by.not_allowed e) = slice_get_within nodes _ _ e
  shown_within (by.value e k) = slice_get_within nodes _ _ e
  shown_within (by.data_type e k) = slice_get_within nodes _ _ e
  shown_within (by.data_except e k w) = slice_get_within nodes _ _ e

  pub each_within : {is : List ℕ} {s : Scope} {ps : Patterns} → ShowEach fs nodes keys is s ps → (j : ℕ) → IsIn j is → j < length nodes
  each_within by.none j h = absurd h
  each_within (by.more w ws) j (inl e) = let l = shown_within w in omega (arith, e, l)
  each_within (by.more w ws) j (inr h) = each_within ws j h
