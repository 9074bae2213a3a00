-- Whole words: a command and its options.
use Rattle.std.proofs.Common.{◌≡◌, ℕ, ◌≤◌, ◌⊎◌, inl, inr, List, [], ◌∷◌, ◌++◌, length, refl, sym, ap, ◌∙◌, subst, arith, codes, append_assoc}
use Rattle.std.specs.Prelude.{Option, Some, None, unwrap_or, IfNone, IfSome}
use Rattle.rng_model.specs.Texts.{Text}
use Rattle.command_words.specs.Words.{IsNumber, Command, Request, AreCommand, ArePage, AreLimit, AreFresh, AreTexts, TakesPage, TakesLimit, HasForm, HasNoForm}
use Rattle.command_words.specs.Reading.{IsOption, BeginsWith, BeginsWithNone, AreOptions, AreNoOptions, AreTaken}
use Rattle.command_words.proofs.Beginnings.{begins_once}
use Rattle.command_words.proofs.OptionWords.{one_list_of_options}

-- the words of a request, part by part, with the numbers that are given
pub record Says (words : List Text) (request : Request) : Type 0 where
  pub rest : List Text
  pub given_page : Option ℕ
  pub given_limit : Option ℕ
  pub given_fresh : Option ℕ
  pub begins : BeginsWith words request.command rest
  pub options : AreOptions rest given_page given_limit given_fresh request.texts
  pub page : request.page ≡ given_page
  pub limit : request.limit ≡ unwrap_or given_limit 100000
  pub fresh : request.fresh ≡ unwrap_or given_fresh 1
  pub takes_page : (given_page ≡ None) ⊎ TakesPage request.command
  pub takes_limit : (given_limit ≡ None) ⊎ TakesLimit request.command

-- an option that is left out
module _ (f : Text) (low high : ℕ) where
  none_given : (ws : List Text) (k : Option ℕ) → IsOption f low high ws k → ws ≡ [] → k ≡ None
  none_given _ _ IsOption.none e = refl
  none_given _ _ (IsOption.some i is) e = absurd (cc)

  no_words : (ws : List Text) (k : Option ℕ) → IsOption f low high ws k → k ≡ None → ws ≡ []
  no_words _ _ IsOption.none e = refl
  no_words _ _ (IsOption.some i is) e = absurd (cc)

-- the options of the definition, and those with the numbers that are given
to_page : (ws : List Text) (k : Option ℕ) → IsOption (codes "max=") 1 1000000000 ws k → ArePage ws k
to_page _ _ IsOption.none = ArePage.none
to_page _ _ (IsOption.some i e) = ArePage.some i e

from_page : (ws : List Text) (k : Option ℕ) → ArePage ws k → IsOption (codes "max=") 1 1000000000 ws k
from_page _ _ ArePage.none = IsOption.none
from_page _ _ (ArePage.some i e) = IsOption.some i e

to_limit : (ws : List Text) (k : Option ℕ) → IsOption (codes "states=") 1 1000000 ws k → AreLimit ws (unwrap_or k 100000)
to_limit _ _ IsOption.none = AreLimit.none
to_limit _ _ (IsOption.some i e) = AreLimit.some i e

from_limit : (ws : List Text) (l : ℕ) → AreLimit ws l → (k : Option ℕ) × IsOption (codes "states=") 1 1000000 ws k × (l ≡ unwrap_or k 100000)
from_limit _ _ AreLimit.none = (None, IsOption.none, refl)
from_limit _ _ (AreLimit.some {l = l} i e) = (Some l, IsOption.some i e, refl)

to_fresh : (ws : List Text) (k : Option ℕ) → IsOption (codes "fresh=") 1 3 ws k → AreFresh ws (unwrap_or k 1)
to_fresh _ _ IsOption.none = AreFresh.none
to_fresh _ _ (IsOption.some i e) = AreFresh.some i e

from_fresh : (ws : List Text) (l : ℕ) → AreFresh ws l → (k : Option ℕ) × IsOption (codes "fresh=") 1 3 ws k × (l ≡ unwrap_or k 1)
from_fresh _ _ AreFresh.none = (None, IsOption.none, refl)
from_fresh _ _ (AreFresh.some {f = f} i e) = (Some f, IsOption.some i e, refl)

left_out : {A B C : Type 0} → (A → B) → A ⊎ C → B ⊎ C
left_out f (inl a) = inl (f a)
left_out f (inr c) = inr c

-- parts from the left, and from the right
nested : (a b c d e : List Text) → a ++ b ++ c ++ d ++ e ≡ a ++ (b ++ (c ++ (d ++ e)))
nested a b c d e = append_assoc (a ++ b ++ c) d e ∙ append_assoc (a ++ b) c (d ++ e) ∙ append_assoc a b (c ++ (d ++ e))

pub says : (words : List Text) (request : Request) → HasForm words request → Says words request
says words request h =
    let limit = from_limit h.limit request.limit h.has_limit in
    let fresh = from_fresh h.fresh request.fresh h.has_fresh in
    let page = from_page h.page request.page h.has_page in
    record {
      rest = h.page ++ (h.limit ++ (h.fresh ++ h.texts));
      given_page = request.page;
      given_limit = limit.0;
      given_fresh = fresh.0;
      begins = record { front = h.front; is = h.is ∙ nested h.front h.page h.limit h.fresh h.texts; has_command = h.command };
      options = record {
        pages = h.page;
        limits = h.limit;
        freshes = h.fresh;
        texts = h.texts;
        is = refl;
        has_page = page;
        has_limit = limit.1;
        has_fresh = fresh.1;
        has_texts = h.has_texts;
        few = h.few_texts;
      };
      page = refl;
      limit = limit.2;
      fresh = fresh.2;
      takes_page = left_out (none_given (codes "max=") 1 1000000000 h.page request.page page) h.takes_page;
      takes_limit = left_out (none_given (codes "states=") 1 1000000 h.limit limit.0 limit.1) h.takes_limit;
    }

pub has_form : (words rest : List Text) (c : Command) (p l f : Option ℕ) (x : List Text) → BeginsWith words c rest → AreOptions rest p l f x →
    (p ≡ None) ⊎ TakesPage c → (l ≡ None) ⊎ TakesLimit c →
    HasForm words (record { command = c; page = p; limit = unwrap_or l 100000; fresh = unwrap_or f 1; texts = x })
has_form words rest c p l f x b o page limit = record {
  front = b.front;
  page = o.pages;
  limit = o.limits;
  fresh = o.freshes;
  texts = o.texts;
  is = b.is ∙ ap (λ r. b.front ++ r) o.is ∙ sym (nested b.front o.pages o.limits o.freshes o.texts);
  command = b.has_command;
  has_page = to_page o.pages p o.has_page;
  has_limit = to_limit o.limits l o.has_limit;
  has_fresh = to_fresh o.freshes f o.has_fresh;
  has_texts = o.has_texts;
  few_texts = o.few;
  takes_page = left_out (no_words (codes "max=") 1 1000000000 o.pages p o.has_page) page;
  takes_limit = left_out (no_words (codes "states=") 1 1000000 o.limits l o.has_limit) limit;
}

abbrev asks : Command → Option ℕ → ℕ → ℕ → List Text → Request
asks c p l f x = record { command = c; page = p; limit = l; fresh = f; texts = x }

-- words have the form of one request
pub one_request : (words : List Text) (q r : Request) → HasForm words q → HasForm words r → q ≡ r
one_request words q r g h = go (says words q g) (says words r h)
  where
    same : (c d : Command) (p k : Option ℕ) (l m f n : ℕ) (x y : List Text) → c ≡ d → p ≡ k → l ≡ m → f ≡ n → x ≡ y →
        asks c p l f x ≡ asks d k m n y
    same c d p k l m f n x y commands pages limits freshes texts = cc

    go : Says words q → Says words r → q ≡ r
    go s t =
        let command = begins_once words s.rest t.rest q.command r.command s.begins t.begins in
        let options = one_list_of_options s.rest s.given_page s.given_limit s.given_fresh t.given_page t.given_limit t.given_fresh q.texts r.texts s.options (rw command.1 at t.options) in
        same q.command r.command q.page r.page q.limit r.limit q.fresh r.fresh q.texts r.texts
        (sym command.0)
        (s.page ∙ sym options.0 ∙ sym t.page)
        (s.limit ∙ ap (λ k. unwrap_or k 100000) (sym options.1) ∙ sym t.limit)
        (s.fresh ∙ ap (λ k. unwrap_or k 1) (sym options.2) ∙ sym t.fresh)
        (sym options.3)

pub no_command : (words : List Text) → BeginsWithNone words → HasNoForm words
no_command words none = λ r h. let s = says words r h in none r.command s.rest s.begins

module _ (words rest : List Text) (c : Command) (b : BeginsWith words c rest) where
  pub no_options : AreNoOptions rest → HasNoForm words
  no_options none = λ r h.
      let s = says words r h in
      let command = begins_once words rest s.rest c r.command b s.begins in
      none s.given_page s.given_limit s.given_fresh r.texts (rw command.1 at s.options)

  pub not_taken : (p l f : Option ℕ) (x : List Text) → AreOptions rest p l f x → (AreTaken c p l → ⊥) → HasNoForm words
  not_taken p l f x o bad = λ r h.
      let s = says words r h in
      let command = begins_once words rest s.rest c r.command b s.begins in
      let options = one_list_of_options rest p l f s.given_page s.given_limit s.given_fresh x r.texts o (rw command.1 at s.options) in
      bad (subst (λ z. AreTaken z p l) command.0
      (subst (λ z. AreTaken r.command z l) options.0
      (subst (λ z. AreTaken r.command s.given_page z) options.1 (s.takes_page, s.takes_limit))))

-- the limits of the numbers
module _ (f : Text) (low high : ℕ) where
  some_given : (ws : List Text) (k : Option ℕ) (n : ℕ) → IsOption f low high ws k → k ≡ Some n → low ≤ n
  some_given _ _ n IsOption.none e = absurd (cc)
  some_given _ _ n (IsOption.some {n = m} i is) e = let same : m ≡ n = cc in let least = i.least in omega (arith, least, same)

  most_given : (ws : List Text) (k : Option ℕ) (n : ℕ) → IsOption f low high ws k → k ≡ Some n → n ≤ high
  most_given _ _ n IsOption.none e = absurd (cc)
  most_given _ _ n (IsOption.some {n = m} i is) e = let same : m ≡ n = cc in let most = i.most in omega (arith, most, same)

  some_in_all : (ws : List Text) (k : Option ℕ) (d : ℕ) → IsOption f low high ws k → low ≤ d → low ≤ unwrap_or k d
  some_in_all _ _ d IsOption.none e = e
  some_in_all _ _ d (IsOption.some i is) e = i.least

  most_in_all : (ws : List Text) (k : Option ℕ) (d : ℕ) → IsOption f low high ws k → d ≤ high → unwrap_or k d ≤ high
  most_in_all _ _ d IsOption.none e = e
  most_in_all _ _ d (IsOption.some i is) e = i.most

module _ (words : List Text) (p l f : Option ℕ) (x : List Text) (o : AreOptions words p l f x) where
  pub some_page : (n : ℕ) → p ≡ Some n → 1 ≤ n
  some_page n e = some_given (codes "max=") 1 1000000000 o.pages p n o.has_page e

  pub most_page : (n : ℕ) → p ≡ Some n → n ≤ 1000000000
  most_page n e = most_given (codes "max=") 1 1000000000 o.pages p n o.has_page e

  pub some_limit : 1 ≤ unwrap_or l 100000
  some_limit = some_in_all (codes "states=") 1 1000000 o.limits l 100000 o.has_limit (omega arith)

  pub most_limit : unwrap_or l 100000 ≤ 1000000
  most_limit = most_in_all (codes "states=") 1 1000000 o.limits l 100000 o.has_limit (omega arith)

  pub some_fresh : 1 ≤ unwrap_or f 1
  some_fresh = some_in_all (codes "fresh=") 1 3 o.freshes f 1 o.has_fresh (omega arith)

  pub few_fresh : unwrap_or f 1 ≤ 3
  few_fresh = most_in_all (codes "fresh=") 1 3 o.freshes f 1 o.has_fresh (omega arith)
