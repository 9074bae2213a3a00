use Rattle.std.proofs.Common.{inl, inr, refl}
use Rattle.rng_model.specs.Patterns as pattern
use Rattle.text_atoms.specs.Kinds.{kind_of}
use Rattle.pattern_intern.specs.Stored.{tree_at, class_at}
use Rattle.kept_elements.proofs.Lists.{both_ok, three_ok}
use Rattle.kept_elements.proofs.Searched.{spread_one, spread_two, spread_ref}
use Rattle.kept_elements.proofs.search.Search.spread.Goals as goal

pub returns-in-Ref : goal.returns-in-Ref
returns-in-Ref c =
    let h = rw c.deref.ensures.value at c.content_form.ensures in
    both_ok c.visit-in-Ref.result
    (spread_ref c.args.graph.now c.args.forms.now.pool c.args.forms.now.forms.items c.args.self.now c.visit-in-Ref.new.self c.args.id c.in-Ref.number h.0 c.content_form.result c.requires.wanted c.in-Ref.ensures.tree h.1)
    c.visit-in-Ref.ensures.grown c.visit-in-Ref.ensures.marked

pub returns-in-DataType-default-Some : goal.returns-in-DataType-default-Some
returns-in-DataType-default-Some c =
    both_ok c.visit.result
    (spread_one c.args.graph.now c.args.forms.now.pool c.args.forms.now.forms.items c.args.self.now c.visit.new.self c.args.id c.in-DataType-default-Some.except.0 (pattern.data_except (kind_of c.in-DataType-default-Some.field-0) (tree_at c.args.forms.now.pool c.in-DataType-default-Some.except.0)) c.requires.wanted (rw c.in-DataType-default-Some.field-1-is at c.in-DataType-default-Some.ensures.tree) (λ p h. h) refl (λ n e. cc))
    c.visit.ensures.grown c.visit.ensures.marked

pub returns-in-Attribute : goal.returns-in-Attribute
returns-in-Attribute c =
    both_ok c.visit-in-Attribute.result
    (spread_one c.args.graph.now c.args.forms.now.pool c.args.forms.now.forms.items c.args.self.now c.visit-in-Attribute.new.self c.args.id c.in-Attribute.content.0 (pattern.attribute (class_at c.args.forms.now.pool c.in-Attribute.field-0.0) (tree_at c.args.forms.now.pool c.in-Attribute.content.0)) c.requires.wanted c.in-Attribute.ensures.tree (λ p h. h) refl (λ n e. cc))
    c.visit-in-Attribute.ensures.grown c.visit-in-Attribute.ensures.marked

pub returns-in-OneOrMore : goal.returns-in-OneOrMore
returns-in-OneOrMore c =
    both_ok c.visit-in-OneOrMore.result
    (spread_one c.args.graph.now c.args.forms.now.pool c.args.forms.now.forms.items c.args.self.now c.visit-in-OneOrMore.new.self c.args.id c.in-OneOrMore.part.0 (pattern.one_or_more (tree_at c.args.forms.now.pool c.in-OneOrMore.part.0)) c.requires.wanted c.in-OneOrMore.ensures.tree (λ p h. h) refl (λ n e. cc))
    c.visit-in-OneOrMore.ensures.grown c.visit-in-OneOrMore.ensures.marked

pub returns-in-Choice : goal.returns-in-Choice
returns-in-Choice c =
    three_ok c.visit_both.result
    (spread_two c.args.graph.now c.args.forms.now.pool c.args.forms.now.forms.items c.args.self.now c.visit_both.new.self c.args.id c.in-Choice.left.0 c.in-Choice.right.0 (pattern.choice (tree_at c.args.forms.now.pool c.in-Choice.left.0) (tree_at c.args.forms.now.pool c.in-Choice.right.0)) c.requires.wanted c.in-Choice.ensures.tree (λ p h. h) (inl refl) (inr refl) (λ n e. cc))
    c.visit_both.ensures.grown c.visit_both.ensures.left c.visit_both.ensures.right

pub returns-in-Group : goal.returns-in-Group
returns-in-Group c =
    three_ok c.visit_both-in-Group.result
    (spread_two c.args.graph.now c.args.forms.now.pool c.args.forms.now.forms.items c.args.self.now c.visit_both-in-Group.new.self c.args.id c.in-Group.left.0 c.in-Group.right.0 (pattern.group (tree_at c.args.forms.now.pool c.in-Group.left.0) (tree_at c.args.forms.now.pool c.in-Group.right.0)) c.requires.wanted c.in-Group.ensures.tree (λ p h. h) (inl refl) (inr refl) (λ n e. cc))
    c.visit_both-in-Group.ensures.grown c.visit_both-in-Group.ensures.left c.visit_both-in-Group.ensures.right

pub returns-in-Interleave : goal.returns-in-Interleave
returns-in-Interleave c =
    three_ok c.visit_both-in-Interleave.result
    (spread_two c.args.graph.now c.args.forms.now.pool c.args.forms.now.forms.items c.args.self.now c.visit_both-in-Interleave.new.self c.args.id c.in-Interleave.left.0 c.in-Interleave.right.0 (pattern.interleave (tree_at c.args.forms.now.pool c.in-Interleave.left.0) (tree_at c.args.forms.now.pool c.in-Interleave.right.0)) c.requires.wanted c.in-Interleave.ensures.tree (λ p h. h) (inl refl) (inr refl) (λ n e. cc))
    c.visit_both-in-Interleave.ensures.grown c.visit_both-in-Interleave.ensures.left c.visit_both-in-Interleave.ensures.right
