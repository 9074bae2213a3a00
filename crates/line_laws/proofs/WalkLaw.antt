-- Reading events one by one accepts the events of skeletons alone.
use Rattle.std.proofs.Common.{◌≡◌, ℕ, zero, suc, ◌⊎◌, ◌↔◌, inl, inr, Bool, true, false, not, ◌&&◌, List, [], ◌∷◌, ◌++◌, map, length, refl, sym, ◌∙◌, ap, subst, append_assoc, Option, Some, None, arith, codes}
use Rattle.std.specs.Prelude.{⊤, IsUtf8}
use Rattle.std.specs.List.{AllByRecursion}
use Rattle.std.specs.List.Sorted.{IsStrictlySortedBy}
use Rattle.std.specs.declared.cmp.Ordering.{Ordering}
use Rattle.std.specs.declared.cmp.Ordering.TheVariants.{Less, Equal, Greater}
use Rattle.std.specs.Ordering.{is_lt}
use Rattle.std.specs.Str.{chars, is_utf8}
use Rattle.std.proofs.Math.Utf8.{encode}
use Rattle.std.specs.Option.{option_map}
use Rattle.std.proofs.lemmas.Str.{IsUtf8-nil, IsUtf8-from_is_utf8}
use Rattle.rng_model.specs.Texts.{Text, is_white}
use Rattle.rng_model.specs.Names.{Name, IsName, name_cmp, is_ncname, is_name_start, is_name_char}
use Rattle.rng_model.specs.Hedges.{none, element, text, Hedge, Attributes, AreChildren, AreAttributes, BeginsWithText, Skeleton, IsSkeleton}
use Rattle.rng_model.specs.Events.{Event, Opening, Attr, Body, Chars, Closing, events, hedge_events}
use Rattle.rng_model.specs.Examples.{a_name}
use Rattle.rng_model.proofs.Orders.{name_order}
use Rattle.line_laws.specs.EventLists.{IsEvent, AreEvents, CanGoOn, AreUnfinished, IsNoSkeleton}
use Rattle.line_laws.specs.Walks.{Walk, Before, Tag, Content, After, follows, walk_if, event_step, and_on, walk, end_fault, fault_on, fault_number}
use Rattle.line_laws.proofs.Reading.{both_all}

-- a step went on
pub went : (m : Option Walk) (f : Walk → Option Walk) (w : Walk) → and_on m f ≡ Some w → (v : Walk) × (m ≡ Some v) × (f v ≡ Some w)
went None f w h = absurd (cc)
went (Some v) f w h = (v, refl, h)

pub walk-append : (w : Walk) (xs ys : List Event) → walk w (xs ++ ys) ≡ and_on (walk w xs) (λ v. walk v ys)
walk-append w [] ys = refl
walk-append w (x ∷ xs) ys = go (event_step w x) (λ v. walk-append v xs ys)
  where
    go : (m : Option Walk) → ((v : Walk) → walk v (xs ++ ys) ≡ and_on (walk v xs) (λ v. walk v ys)) → and_on m (λ v. walk v (xs ++ ys)) ≡ and_on (and_on m (λ v. walk v xs)) (λ v. walk v ys)
    go None h = refl
    go (Some v) h = h v

abbrev pub attribute_events : Attributes → List Event
attribute_events a = map (λ x. Attr x.0 x.1) a

abbrev pub names : Attributes → List Name
names a = map (λ x. x.0) a

-- the names come after the last one
abbrev pub Exceed : Option Name → List Name → Type 0
Exceed None ns = ⊤
Exceed (Some m) ns = AllByRecursion (λ n. name_cmp m n ≡ Less) ns

all_less : (m n : Name) (ns : List Name) → name_cmp m n ≡ Less → AllByRecursion (λ k. name_cmp n k ≡ Less) ns → AllByRecursion (λ k. name_cmp m k ≡ Less) ns
all_less m n [] l h = tt
all_less m n (k ∷ ns) l h = (name_order.trans m n k l h.0, all_less m n ns l h.1)

pub follows-less : (m n : Name) → follows (Some m) n ≡ true → name_cmp m n ≡ Less
follows-less m n h = go (name_cmp m n) h
  where
    go : (o : Ordering) → is_lt o ≡ true → o ≡ Less
    go Less h = refl
    go Equal h = absurd (cc)
    go Greater h = absurd (cc)

exceed_more : (last : Option Name) (n : Name) (ns : List Name) → follows last n ≡ true → AllByRecursion (λ k. name_cmp n k ≡ Less) ns → Exceed last (n ∷ ns)
exceed_more None n ns f h = tt
exceed_more (Some m) n ns f h = let l = follows-less m n f in (l, all_less m n ns l h)

-- the events of hedges, with a closing behind each
abbrev pub unwind : List Hedge → List Event
unwind [] = []
unwind (h ∷ hs) = hedge_events h ++ (Closing ∷ unwind hs)

-- what is left in a content
pub record InContent (d : ℕ) (b : Bool) (es : List Event) : Type 0 where
  pub first : Hedge
  pub others : List Hedge
  pub depth : length others ≡ d
  pub are : AreChildren first
  pub each : AllByRecursion AreChildren others
  pub begins : BeginsWithText first → b ≡ true
  pub is : es ≡ unwind (first ∷ others)

-- what is left in a tag
pub record InTag (d : ℕ) (last : Option Name) (es : List Event) : Type 0 where
  pub attributes : Attributes
  pub are : AreAttributes attributes
  pub exceed : Exceed last (names attributes)
  pub content : List Event
  pub inside : InContent d true content
  pub is : es ≡ attribute_events attributes ++ (Body ∷ content)

abbrev pub Remains : Walk → List Event → Type 0
Remains Before es = AreEvents es
Remains (Tag d last) es = InTag d last es
Remains (Content d b) es = InContent d b es
Remains After es = es ≡ []

both : (a b : Bool) → (a && b) ≡ true → (a ≡ true) × (b ≡ true)
both true b e = (refl, e)
both false b e = absurd (cc)

passed : (t : Bool) (w v : Walk) → walk_if t w ≡ Some v → (t ≡ true) × (w ≡ v)
passed true w v h = (refl, cc)
passed false w v h = absurd (cc)

not_true : (b : Bool) → not b ≡ true → b ≡ false
not_true true h = absurd (cc)
not_true false h = refl

opened : (n : Name) (es : List Event) → IsName n → InTag zero None es → AreEvents (Opening n ∷ es)
opened n es named t = go t.inside.others t.inside.depth t.inside.is
  where
    go : (hs : List Hedge) → length hs ≡ 0 → t.content ≡ unwind (t.inside.first ∷ hs) → AreEvents (Opening n ∷ es)
    go (x ∷ hs) l e = absurd (omega (arith, l))
    go [] l e = (
      record { name = n; attributes = t.attributes; children = t.inside.first },
      record { name = named; attributes = t.are; children = t.inside.are },
      ap (λ z. Opening n ∷ z) (grouped (attribute_events t.attributes) (hedge_events t.inside.first) ∙ ap (λ z. attribute_events t.attributes ++ (Body ∷ z)) (sym e) ∙ sym t.is),
    )
      where
        grouped : (a k : List Event) → (a ++ (Body ∷ k)) ++ (Closing ∷ []) ≡ a ++ (Body ∷ (k ++ (Closing ∷ [])))
        grouped a k = append_assoc a (Body ∷ k) (Closing ∷ [])

with_attribute : (d : ℕ) (last : Option Name) (n : Name) (t : Text) (es : List Event) → IsName n → IsUtf8 t → follows last n ≡ true → InTag d (Some n) es → InTag d last (Attr n t ∷ es)
unfolding IsStrictlySortedBy
with_attribute d last n t es named utf8 f r = record {
  attributes = (n, t) ∷ r.attributes;
  are = record { ascending = (r.exceed, r.are.ascending); each = ((named, utf8), r.are.each) };
  exceed = exceed_more last n (names r.attributes) f r.exceed;
  content = r.content;
  inside = r.inside;
  is = ap (λ z. Attr n t ∷ z) r.is;
}

with_element : (d : ℕ) (b : Bool) (n : Name) (es : List Event) → IsName n → InTag (suc d) None es → InContent d b (Opening n ∷ es)
with_element d b n es named t = go t.inside.others t.inside.depth t.inside.each t.inside.is
  where
    grouped : (a k r u : List Event) → a ++ (Body ∷ (k ++ (Closing ∷ (r ++ u)))) ≡ ((a ++ (Body ∷ k)) ++ (Closing ∷ r)) ++ u
    grouped a k r u = simp append_assoc

    go : (hs : List Hedge) → length hs ≡ suc d → AllByRecursion AreChildren hs → t.content ≡ unwind (t.inside.first ∷ hs) → InContent d b (Opening n ∷ es)
    go [] l c e = absurd (omega (arith, l))
    go (x ∷ hs) l c e = record {
      first = element n t.attributes t.inside.first x;
      others = hs;
      depth = omega (arith, l);
      are = (named, t.are, t.inside.are, c.0);
      each = c.1;
      begins = λ h. absurd h;
      is = ap (λ z. Opening n ∷ z) (t.is ∙ ap (λ z. attribute_events t.attributes ++ (Body ∷ z)) e ∙ grouped (attribute_events t.attributes) (hedge_events t.inside.first) (hedge_events x) (Closing ∷ unwind hs));
    }

no_names : IsStrictlySortedBy name_cmp []
unfolding IsStrictlySortedBy
no_names = tt

one : (w : Walk) (e : Event) (es : List Event) → IsEvent e → (v : Walk) → event_step w e ≡ Some v → Remains v es → Remains w (e ∷ es)
one Before (Opening n) es is v s r = let f : Tag zero None ≡ v = cc in opened n es is (subst (λ z. Remains z es) (sym f) r)
one (Tag d last) (Attr n t) es is v s r =
    let p = passed (follows last n) (Tag d (Some n)) v s in
    with_attribute d last n t es is.0 is.1 p.0 (subst (λ z. Remains z es) (sym p.1) r)
one (Tag d last) Body es is v s r =
    let f : Content d true ≡ v = cc in
    record { attributes = []; are = record { ascending = no_names; each = tt }; exceed = nothing last; content = es; inside = subst (λ z. Remains z es) (sym f) r; is = refl }
  where
    nothing : (last : Option Name) → Exceed last []
    nothing None = tt
    nothing (Some m) = tt
one (Content d b) (Opening n) es is v s r = let f : Tag (suc d) None ≡ v = cc in with_element d b n es is (subst (λ z. Remains z es) (sym f) r)
one (Content d b) (Chars t) es is v s r =
    let p = passed (b && not (is_white t)) (Content d false) v s in
    let q = both b (not (is_white t)) p.0 in
    let c : InContent d false es = subst (λ z. Remains z es) (sym p.1) r in
    record {
      first = text t c.first;
      others = c.others;
      depth = c.depth;
      are = (is, not_true (is_white t) q.1, (λ h. differ (c.begins h)), c.are);
      each = c.each;
      begins = λ h. q.0;
      is = ap (λ z. Chars t ∷ z) c.is;
    }
  where
    differ : false ≡ true → ⊥
    differ e = cc
one (Content zero b) Closing es is v s r =
    let f : After ≡ v = cc in
    let e : es ≡ [] = subst (λ z. Remains z es) (sym f) r in
    record { first = none; others = []; depth = refl; are = tt; each = tt; begins = λ h. absurd h; is = ap (λ z. Closing ∷ z) e }
one (Content (suc d) b) Closing es is v s r =
    let f : Content d true ≡ v = cc in
    let c : InContent d true es = subst (λ z. Remains z es) (sym f) r in
    record { first = none; others = c.first ∷ c.others; depth = omega (arith, c.depth); are = tt; each = (c.are, c.each); begins = λ h. absurd h; is = ap (λ z. Closing ∷ z) c.is }
one w e es is v s r = absurd (cc)

pub reads : (es : List Event) (w : Walk) → AllByRecursion IsEvent es → walk w es ≡ Some After → Remains w es
reads [] Before a h = absurd (cc)
reads [] (Tag d last) a h = absurd (cc)
reads [] (Content d b) a h = absurd (cc)
reads [] After a h = refl
reads (e ∷ es) w a h =
    let g = went (event_step w e) (λ v. walk v es) After h in
    one w e es a.0 g.0 g.1 (reads es g.0 a.1 g.2)

-- the events of skeletons are accepted

exceed_passes : (last : Option Name) (n : Name) (ns : List Name) → Exceed last (n ∷ ns) → follows last n ≡ true
exceed_passes None n ns h = refl
exceed_passes (Some m) n ns h = ap is_lt h.0

walk_attributes : (a : Attributes) (d : ℕ) (last : Option Name) (es : List Event) → Exceed last (names a) → IsStrictlySortedBy name_cmp (names a) → walk (Tag d last) (attribute_events a ++ (Body ∷ es)) ≡ walk (Content d true) es
unfolding IsStrictlySortedBy
walk_attributes [] d last es e s = refl
walk_attributes (x ∷ a) d last es e s =
    let st : event_step (Tag d last) (Attr x.0 x.1) ≡ Some (Tag d (Some x.0)) = ap (λ t. walk_if t (Tag d (Some x.0))) (exceed_passes last x.0 (names a) e) in
    ap (λ m. and_on m (λ v. walk v (attribute_events a ++ (Body ∷ es)))) st ∙ walk_attributes a d (Some x.0) es s.0 s.1

any_closing : (d : ℕ) (b : Bool) (es : List Event) → walk (Content d b) (Closing ∷ es) ≡ walk (Content d true) (Closing ∷ es)
any_closing zero b es = refl
any_closing (suc d) b es = refl

element_apart : (a k r u : List Event) → ((a ++ (Body ∷ k)) ++ (Closing ∷ r)) ++ u ≡ a ++ (Body ∷ (k ++ (Closing ∷ (r ++ u))))
element_apart a k r u = simp append_assoc

pub walk_children : (h : Hedge) (d : ℕ) (b : Bool) (es : List Event) → AreChildren h → (BeginsWithText h → b ≡ true) → walk (Content d b) (hedge_events h ++ (Closing ∷ es)) ≡ walk (Content d true) (Closing ∷ es)
walk_children none d b es c f = any_closing d b es
walk_children (text t rest) d b es c f =
    let ok : (b && not (is_white t)) ≡ true = (λ i. f tt i && not (c.1 i)) in
    ap (λ m. and_on m (λ v. walk v (hedge_events rest ++ (Closing ∷ es)))) (ap (λ t. walk_if t (Content d false)) ok)
    ∙ walk_children rest d false es c.3 (λ h. absurd (c.2 h))
walk_children (element n a k rest) d b es c f =
    let m : List Event = hedge_events rest ++ (Closing ∷ es) in
    ap (λ z. walk (Content d b) (Opening n ∷ z)) (element_apart (attribute_events a) (hedge_events k) (hedge_events rest) (Closing ∷ es))
    ∙ walk_attributes a (suc d) None (hedge_events k ++ (Closing ∷ m)) tt c.1.ascending
    ∙ walk_children k (suc d) true m c.2 (λ h. refl)
    ∙ walk_children rest d true es c.3 (λ h. refl)

pub walk_skeleton : (s : Skeleton) → IsSkeleton s → walk Before (events s) ≡ Some After
walk_skeleton s is =
    ap (λ z. walk Before (Opening s.name ∷ z)) (append_assoc (attribute_events s.attributes) (Body ∷ hedge_events s.children) (Closing ∷ []))
    ∙ walk_attributes s.attributes zero None (hedge_events s.children ++ (Closing ∷ [])) tt is.attributes.ascending
    ∙ walk_children s.children zero true [] is.children (λ h. refl)

pub walk_events : (es : List Event) → AreEvents es → walk Before es ≡ Some After
walk_events es (s, is, e) = subst (λ z. walk Before z ≡ Some After) e (walk_skeleton s is)

-- with the events that finish it

closings : ℕ → List Event
closings zero = Closing ∷ []
closings (suc d) = Closing ∷ closings d

-- a shortest way to the end
pub finish : Walk → List Event
finish Before = Opening a_name ∷ Body ∷ Closing ∷ []
finish (Tag d last) = Body ∷ closings d
finish (Content d b) = closings d
finish After = []

closings_walk : (d : ℕ) (b : Bool) → walk (Content d b) (closings d) ≡ Some After
unfolding closings
closings_walk zero b = refl
closings_walk (suc d) b = closings_walk d true

pub finish_walk : (w : Walk) → walk w (finish w) ≡ Some After
unfolding finish closings
finish_walk Before = refl
finish_walk (Tag d last) = closings_walk d true
finish_walk (Content d b) = closings_walk d b
finish_walk After = refl

a_is_name : IsName a_name
unfolding is_ncname is_name_start is_name_char chars is_utf8 encode
a_is_name = record { ns = IsUtf8-nil; local = IsUtf8-from_is_utf8 (codes "a") refl; ncname = refl }

closings_are : (d : ℕ) → AllByRecursion IsEvent (closings d)
unfolding closings
closings_are zero = (tt, tt)
closings_are (suc d) = (tt, closings_are d)

pub finish_are : (w : Walk) → AllByRecursion IsEvent (finish w)
unfolding finish
finish_are Before = (a_is_name, (tt, (tt, tt)))
finish_are (Tag d last) = (tt, closings_are d)
finish_are (Content d b) = closings_are d
finish_are After = tt

pub finish_more : (w : Walk) → (w ≡ After → ⊥) → (e : Event) × ((more : List Event) × (finish w ≡ e ∷ more))
unfolding finish closings
finish_more Before n = (Opening a_name, (Body ∷ Closing ∷ [], refl))
finish_more (Tag d last) n = (Body, (closings d, refl))
finish_more (Content zero b) n = (Closing, ([], refl))
finish_more (Content (suc d) b) n = (Closing, (closings d, refl))
finish_more After n = absurd (n refl)

finished : (es : List Event) (w : Walk) → AllByRecursion IsEvent es → walk Before es ≡ Some w → AreEvents (es ++ finish w)
finished es w a h =
    reads (es ++ finish w) Before (both_all IsEvent es (finish w) a (finish_are w)) (walk-append Before es (finish w) ∙ ap (λ m. and_on m (λ v. walk v (finish w))) h ∙ finish_walk w)

-- what can be walked begins the events of a skeleton
pub can_go_on : (es : List Event) (w : Walk) → AllByRecursion IsEvent es → walk Before es ≡ Some w → CanGoOn es
can_go_on es w a h = let f = finished es w a h in (f.0, f.1, (finish w, f.2))

pub is_unfinished : (es : List Event) (w : Walk) → AllByRecursion IsEvent es → walk Before es ≡ Some w → (w ≡ After → ⊥) → AreUnfinished es
is_unfinished es w a h n =
    let f = finished es w a h in
    let m = finish_more w n in
    (f.0, f.1, (m.0, (m.1.0, f.2 ∙ ap (λ z. es ++ z) m.1.1)))

pub walks_on : (es : List Event) → CanGoOn es → (w : Walk) × (walk Before es ≡ Some w)
walks_on es (s, is, m) =
    let h = walk_events (es ++ m.0) (s, is, m.1) in
    let g = went (walk Before es) (λ v. walk v m.0) After (sym (walk-append Before es m.0) ∙ h) in
    (g.0, g.1)

pub after_stuck : (e : Event) → event_step After e ≡ None
after_stuck (Opening n) = refl
after_stuck (Attr n t) = refl
after_stuck Body = refl
after_stuck (Chars t) = refl
after_stuck Closing = refl

pub walks_unfinished : (es : List Event) → AreUnfinished es → (w : Walk) × (walk Before es ≡ Some w) × (w ≡ After → ⊥)
walks_unfinished es (s, is, m) =
    let more : List Event = m.0 ∷ m.1.0 in
    let h = walk_events (es ++ more) (s, is, m.1.1) in
    let g = went (walk Before es) (λ v. walk v more) After (sym (walk-append Before es more) ∙ h) in
    (g.0, g.1, λ e. stuck (ap (λ v. walk v more) (sym e) ∙ g.2))
  where
    stuck : walk After (m.0 ∷ m.1.0) ≡ Some After → ⊥
    stuck h = let i : None ≡ Some After = sym (ap (λ o. and_on o (λ v. walk v m.1.0)) (after_stuck m.0)) ∙ h in cc

-- the first refusal

pub record Stuck (w : Walk) (es : List Event) (k : ℕ) : Type 0 where
  pub front : List Event
  pub stray : Event
  pub back : List Event
  pub is : es ≡ front ++ (stray ∷ back)
  pub at : k ≡ length front
  pub reached : Walk
  pub reaches : walk w front ≡ Some reached
  pub stuck : event_step reached stray ≡ None

pub record Short (w : Walk) (es : List Event) (k : ℕ) : Type 0 where
  pub at : k ≡ length es
  pub reached : Walk
  pub reaches : walk w es ≡ Some reached
  pub unended : reached ≡ After → ⊥

end_short : (w : Walk) (k : ℕ) → end_fault w ≡ Some k → Short w [] k
end_short Before k h = record { at = cc; reached = Before; reaches = refl; unended = λ e. cc }
end_short (Tag d last) k h = record { at = cc; reached = Tag d last; reaches = refl; unended = λ e. cc }
end_short (Content d b) k h = record { at = cc; reached = Content d b; reaches = refl; unended = λ e. cc }
end_short After k h = absurd (cc)

one_less : (o : Option ℕ) (k : ℕ) → option_map (λ k. suc k) o ≡ Some k → (j : ℕ) × (o ≡ Some j) × (k ≡ suc j)
one_less None k h = absurd (cc)
one_less (Some j) k h = (j, refl, cc)

pub fault-some : (es : List Event) (w : Walk) (k : ℕ) → fault_number w es ≡ Some k → Stuck w es k ⊎ Short w es k
fault-some [] w k h = inr (end_short w k h)
fault-some (e ∷ es) w k h = go (event_step w e) refl (λ v. fault-some es v) h
  where
    more : (v : Walk) (j : ℕ) → event_step w e ≡ Some v → k ≡ suc j → Stuck v es j ⊎ Short v es j → Stuck w (e ∷ es) k ⊎ Short w (e ∷ es) k
    more v j s q (inl f) = inl record {
      front = e ∷ f.front;
      stray = f.stray;
      back = f.back;
      is = ap (λ z. e ∷ z) f.is;
      at = q ∙ ap (λ z. suc z) f.at;
      reached = f.reached;
      reaches = ap (λ m. and_on m (λ v. walk v f.front)) s ∙ f.reaches;
      stuck = f.stuck;
    }
    more v j s q (inr f) = inr record {
      at = q ∙ ap (λ z. suc z) f.at;
      reached = f.reached;
      reaches = ap (λ m. and_on m (λ v. walk v es)) s ∙ f.reaches;
      unended = f.unended;
    }

    go : (m : Option Walk) → event_step w e ≡ m → ((v : Walk) (j : ℕ) → fault_number v es ≡ Some j → Stuck v es j ⊎ Short v es j) → fault_on m (λ v. fault_number v es) ≡ Some k → Stuck w (e ∷ es) k ⊎ Short w (e ∷ es) k
    go None s f g = inl record { front = []; stray = e; back = es; is = refl; at = cc; reached = w; reaches = refl; stuck = s }
    go (Some v) s f g = let o = one_less (fault_number v es) k g in more v o.0 s o.2 (f v o.0 o.1)

pub stuck_number : (front : List Event) (w : Walk) (stray : Event) (back : List Event) (v : Walk) → walk w front ≡ Some v → event_step v stray ≡ None → fault_number w (front ++ (stray ∷ back)) ≡ Some (length front)
stuck_number [] w stray back v h s =
    let e : w ≡ v = cc in
    ap (λ m. fault_on m (λ v. fault_number v back)) (ap (λ z. event_step z stray) e ∙ s)
stuck_number (x ∷ front) w stray back v h s =
    let g = went (event_step w x) (λ v. walk v front) v h in
    ap (λ m. fault_on m (λ v. fault_number v (front ++ (stray ∷ back)))) g.1 ∙ ap (option_map (λ k. suc k)) (stuck_number front g.0 stray back v g.2 s)

end_open : (w : Walk) → (w ≡ After → ⊥) → end_fault w ≡ Some zero
end_open Before n = refl
end_open (Tag d last) n = refl
end_open (Content d b) n = refl
end_open After n = absurd (n refl)

pub short_number : (es : List Event) (w v : Walk) → walk w es ≡ Some v → (v ≡ After → ⊥) → fault_number w es ≡ Some (length es)
short_number [] w v h n = let e : w ≡ v = cc in end_open w (λ f. n (sym e ∙ f))
short_number (x ∷ es) w v h n =
    let g = went (event_step w x) (λ v. walk v es) v h in
    ap (λ m. fault_on m (λ v. fault_number v es)) g.1 ∙ ap (option_map (λ k. suc k)) (short_number es g.0 v g.2 n)

none_later : (o : Option ℕ) → option_map (λ k. suc k) o ≡ None → o ≡ None
none_later None h = refl
none_later (Some j) h = absurd (cc)

pub fault-none : (es : List Event) (w : Walk) → fault_number w es ≡ None → walk w es ≡ Some After
fault-none [] Before h = absurd (cc)
fault-none [] (Tag d last) h = absurd (cc)
fault-none [] (Content d b) h = absurd (cc)
fault-none [] After h = refl
fault-none (e ∷ es) w h = go (event_step w e) (λ v. fault-none es v) h
  where
    go : (m : Option Walk) → ((v : Walk) → fault_number v es ≡ None → walk v es ≡ Some After) → fault_on m (λ v. fault_number v es) ≡ None → and_on m (λ v. walk v es) ≡ Some After
    go None f g = absurd (cc)
    go (Some v) f g = f v (none_later (fault_number v es) g)

pub none-fault : (es : List Event) (w : Walk) → walk w es ≡ Some After → fault_number w es ≡ None
none-fault [] w h = let e : w ≡ After = cc in ap end_fault e
none-fault (e ∷ es) w h =
    let g = went (event_step w e) (λ v. walk v es) After h in
    ap (λ m. fault_on m (λ v. fault_number v es)) g.1 ∙ ap (option_map (λ k. suc k)) (none-fault es g.0 g.2)

pub accepts : (es : List Event) → AllByRecursion IsEvent es → (fault_number Before es ≡ None) ↔ AreEvents es
accepts es a = (λ h. reads es Before a (fault-none es Before h), λ h. none-fault es Before (walk_events es h))

parts : (xs ys : List Event) → AllByRecursion IsEvent (xs ++ ys) → AllByRecursion IsEvent xs × AllByRecursion IsEvent ys
parts [] ys h = (tt, h)
parts (x ∷ xs) ys h = let p = parts xs ys h.1 in ((h.0, p.0), p.1)

pub steps_to : (es : List Event) (e : Event) (w v : Walk) → walk Before es ≡ Some w → event_step w e ≡ Some v → walk Before (es ++ (e ∷ [])) ≡ Some v
steps_to es e w v h s = walk-append Before es (e ∷ []) ∙ ap (λ m. and_on m (λ v. walk v (e ∷ []))) h ∙ ap (λ m. and_on m (λ v. walk v [])) s

pub step_of : (es : List Event) (e : Event) (w v : Walk) → walk Before es ≡ Some w → walk Before (es ++ (e ∷ [])) ≡ Some v → event_step w e ≡ Some v
step_of es e w v h k =
    let i : and_on (event_step w e) (λ v. walk v []) ≡ Some v = sym (walk-append Before es (e ∷ []) ∙ ap (λ m. and_on m (λ v. walk v (e ∷ []))) h) ∙ k in
    let g = went (event_step w e) (λ v. walk v []) v i in
    let q : g.0 ≡ v = cc in
    g.1 ∙ ap (λ z. Some z) q

is_none : (o : Option Walk) → ((v : Walk) → o ≡ Some v → ⊥) → o ≡ None
is_none None h = refl
is_none (Some v) h = absurd (h v refl)

none_some : (o : Option Walk) (v : Walk) → o ≡ None → o ≡ Some v → ⊥
none_some o v h k = let i : None ≡ Some v = sym h ∙ k in cc

pub refuses : (es : List Event) → AllByRecursion IsEvent es → (k : ℕ) → (fault_number Before es ≡ Some k) ↔ IsNoSkeleton es k
refuses es a k = (λ h. to (fault-some es Before k h), from)
  where
    to : Stuck Before es k ⊎ Short Before es k → IsNoSkeleton es k
    to (inl f) = inl record {
      front = f.front;
      stray = f.stray;
      back = f.back;
      is = f.is;
      at = f.at;
      before = can_go_on f.front f.reached (parts f.front (f.stray ∷ f.back) (subst (AllByRecursion IsEvent) f.is a)).0 f.reaches;
      here = λ c. let w = walks_on (f.front ++ (f.stray ∷ [])) c in none_some (event_step f.reached f.stray) w.0 f.stuck (step_of f.front f.stray f.reached w.0 f.reaches w.1);
    }
    to (inr f) = inr (is_unfinished es f.reached a f.reaches f.unended, f.at)

    from : IsNoSkeleton es k → fault_number Before es ≡ Some k
    from (inl f) =
        let w = walks_on f.front f.before in
        let p = parts f.front (f.stray ∷ f.back) (subst (AllByRecursion IsEvent) f.is a) in
        let s : event_step w.0 f.stray ≡ None =
        is_none (event_step w.0 f.stray) (λ v g. f.here (can_go_on (f.front ++ (f.stray ∷ [])) v (both_all IsEvent f.front (f.stray ∷ []) p.0 (p.1.0, tt)) (steps_to f.front f.stray w.0 v w.1 g))) in
        ap (fault_number Before) f.is ∙ stuck_number f.front Before f.stray f.back w.0 w.1 s ∙ ap (λ z. Some z) (sym f.at)
    from (inr f) =
        let w = walks_unfinished es f.0 in
        short_number es Before w.0 w.1 w.2 ∙ ap (λ z. Some z) (sym f.1)
