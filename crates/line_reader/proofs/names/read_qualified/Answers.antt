use Rattle.std.proofs.Common.{◌≡◌, ℕ, ◌<◌, ◌∙◌, ap, refl, sym, drop, length, List, [], ◌∷◌, Bool, true, false, arith}
use Rattle.std.specs.Prelude.{IsTrue}
use Rattle.line_reader.proofs.Faulted.{slice_from}
use Rattle.line_reader.proofs.Named.{named, unclosed, empty_braces}
use Rattle.line_reader.proofs.names.read_qualified.Goals as goal
use Rattle.line_reader.proofs.names.read_qualified.Goals.{in_default-via-in-Some+else-is_written, in_default-via-in_default}

is_empty : (xs : List ℕ) (b : Bool) → (0 < length xs → IsTrue b) → b ≡ false → xs ≡ []
is_empty [] b h e = refl
is_empty (x ∷ xs) b h e = let t : true ≡ false = sym (h (omega arith)) ∙ e in absurd (cc)

pub returns-in-Some : goal.returns-in-Some
returns-in-Some c =
    named c.name_of.result c.in_ok-ns.ns.items c.in-Some.local.now (drop c.in_ok-ns.len c.args.bytes.now) c.args.bytes.now
    (λ none. let some = c.is_written.ensures.0 c.if-is_written.true in absurd (omega (arith, ap length none))) (sym (slice_from c.args.bytes.now c.in_ok-ns.len) ∙ c.in-Some.ensures) c.in_ok-ns.ensures.front c.in_ok-ns.ensures.longest c.name_of.ensures

pub returns-in_default : goal.returns-in_default
returns-in_default c =
    elim c.in_default.branch [
      | in_default-via-in-Some+else-is_written w ↦ empty_braces c.in_ok-ns.ns.items (drop c.in_ok-ns.len c.args.bytes.now) c.args.bytes.now c.in_ok-ns.ensures.front c.in_ok-ns.ensures.longest (is_empty c.in_ok-ns.ns.items w.is_written.result w.is_written.ensures.1 w.if-is_written.false)
      | in_default-via-in_default w ↦ unclosed c.in_ok-ns.ns.items (drop c.in_ok-ns.len c.args.bytes.now) c.args.bytes.now c.in_ok-ns.ensures.front c.in_ok-ns.ensures.longest
          (λ l e. w.in_default.ensures l (slice_from c.args.bytes.now c.in_ok-ns.len ∙ e))
    ]
