-- What the functions of the parser do to the tokens that are left.
use Rattle.std.specs.Prelude.{◌≡◌, ℕ, suc, Bool, true, false, List, [], ◌∷◌, ◌++◌, Result, Ok, Err, Option, Some, None, ⊤}
use Rattle.rng_model.specs.Texts.{Text}
use Rattle.token_laws.specs.Tokens.{Keyword, Symbol, Token, keyword, ident, cname, ns_name, segment, symbol, Placed, ◌at◌}
use Rattle.token_laws.specs.Tokens as kw
use Rattle.grammar_laws.specs.Trees as tree
use Rattle.grammar_laws.specs.Grammar.{IsAnyId, IsAnnotationName}
use Rattle.syntax_laws.specs.Expecting.{Part, pass, refuse, first, next, type_move, end_move, is_assign, Stands, Sticks}
use Rattle.schema_tree.specs.Trees.{type_of, method_of}
use Rattle.rnc_parser.specs.declared.stop.Stop.{Stop}
use Rattle.schema_tree.specs.declared.tree.TypeName.{TypeName}
use Rattle.schema_tree.specs.declared.tree.Method.{Method}

-- the symbol is next, or it isn't
abbrev pub Is : Symbol → List Placed → Bool → Type 0
Is s ts true = (a : ℕ) × (vs : List Placed) × (ts ≡ symbol s at a ∷ vs)
Is s ts false = (a : ℕ) (vs : List Placed) → ts ≡ symbol s at a ∷ vs → ⊥

-- the symbol is next, and is passed, or it isn't next
abbrev pub Eats : Symbol → List Placed → Bool → List Placed → Type 0
Eats s ts true us = (a : ℕ) × (ts ≡ symbol s at a ∷ us)
Eats s ts false us = (us ≡ ts) × ((a : ℕ) (vs : List Placed) → ts ≡ symbol s at a ∷ vs → ⊥)

-- the part isn't next
abbrev pub Misses : Part → List Placed → Stop → List Placed → Type 0
Misses x ts Stop.Syntax us = (us ≡ ts) × (next x (first ts) ≡ refuse)
Misses x ts Stop.OutOfMemory us = ⊤

-- a part of one token: it is next and is passed, or it isn't next
abbrev pub Takes : {A : Type 0} → Part → (Token → ℕ → A → Type 0) → List Placed → Result A Stop → List Placed → Type 0
Takes x R ts (Ok v) us = (t : Token) × (a : ℕ) × (ts ≡ t at a ∷ us) × (next x (Some t) ≡ pass []) × R t a v
Takes x R ts (Err e) us = Misses x ts e us

-- the parts xs fail at the first token of us
pub data Fails (xs : List Part) (ts us : List Placed) : Stop → Type 0 where
  at_token : Sticks xs ts us → Fails xs ts us Stop.Syntax
  no_memory : Fails xs ts us Stop.OutOfMemory

-- the parts xs are read, up to the tokens us, or fail there
pub data Parsed {A : Type 0} (xs : List Part) (R : List Placed → List Placed → A → Type 0) (ts : List Placed) : Result A Stop → List Placed → Type 0 where
  parsed : {v : A} {us : List Placed} → R ts us v → Stands xs ts [] us → Parsed xs R ts (Ok v) us
  failed : {e : Stop} {us : List Placed} → Fails xs ts us e → Parsed xs R ts (Err e) us

abbrev pub IsSign : Symbol → Token → ℕ → ℕ → Type 0
IsSign s t a v = (t ≡ symbol s) × (v ≡ a)

abbrev pub IsKeyword : Keyword → Token → ℕ → ℕ → Type 0
IsKeyword k t a v = (t ≡ keyword k) × (v ≡ a)

abbrev pub IsName : Token → ℕ → Text × ℕ → Type 0
IsName t a v = IsAnyId t (v.0) × (v.1 ≡ a)

abbrev pub IsPlainName : Token → ℕ → Text × ℕ → Type 0
IsPlainName t a v = (t ≡ ident (v.0)) × (v.1 ≡ a)

abbrev pub IsPrefixedName : Token → ℕ → Text × Text × ℕ → Type 0
IsPrefixedName t a v = (t ≡ cname (v.0) (v.1)) × (v.2 ≡ a)

abbrev pub IsNamespaceName : Token → ℕ → Text × ℕ → Type 0
IsNamespaceName t a v = (t ≡ ns_name (v.0)) × (v.1 ≡ a)

abbrev pub IsBeforeBlock : Token → ℕ → ⊤ → Type 0
IsBeforeBlock t a v = IsAnnotationName t

-- the segment's text is added to s
abbrev pub IsSegment : Text → Text → Token → ℕ → ⊤ → Type 0
IsSegment s l t a v = (n : Text) × (t ≡ segment n) × (l ≡ s ++ n)

-- the token names the type
abbrev pub IsTypeName : Token → ℕ → TypeName → Type 0
IsTypeName (cname p n) a v = type_of v ≡ tree.prefixed_type p n a
IsTypeName (keyword kw.string) a v = type_of v ≡ tree.built_string a
IsTypeName (keyword kw.token) a v = type_of v ≡ tree.built_token a
IsTypeName _ a v = ⊥

-- the token is the method's sign
abbrev pub IsMethod : Token → ℕ → Method → Type 0
IsMethod (symbol Symbol.equals) a v = method_of v ≡ tree.Method.Plain
IsMethod (symbol Symbol.bar_equals) a v = method_of v ≡ tree.Method.Choice
IsMethod (symbol Symbol.ampersand_equals) a v = method_of v ≡ tree.Method.Interleave
IsMethod _ a v = ⊥

-- the token names the type
abbrev pub IsTypeToken : Token → ℕ → Result TypeName Stop → Type 0
IsTypeToken t a (Ok v) = (type_move (Some t) ≡ pass []) × IsTypeName t a v
IsTypeToken t a (Err Stop.Syntax) = type_move (Some t) ≡ refuse
IsTypeToken t a (Err Stop.OutOfMemory) = ⊤

-- the token is the method's sign
abbrev pub IsMethodToken : Token → Option Method → Type 0
IsMethodToken t (Some v) = (is_assign (Some t) ≡ true) × IsMethod t 0 v
IsMethodToken t None = is_assign (Some t) ≡ false

-- no token is left, or one is
abbrev pub AtEnd : List Placed → Result ⊤ Stop → Type 0
AtEnd ts (Ok v) = ts ≡ []
AtEnd ts (Err Stop.Syntax) = end_move (first ts) ≡ refuse
AtEnd ts (Err Stop.OutOfMemory) = ⊤

-- how many brackets are open behind the token, where n were before it
abbrev pub IsOpenBehind : ℕ → Token → ℕ → Type 0
IsOpenBehind n (symbol Symbol.open_bracket) m = m ≡ suc n
IsOpenBehind n (symbol Symbol.close_bracket) m = n ≡ suc m
IsOpenBehind n t m = m ≡ n

-- a token inside a block is passed, or none is left
abbrev pub InBlock : ℕ → List Placed → Result ℕ Stop → List Placed → Type 0
InBlock n ts (Ok m) us = (t : Token) × (a : ℕ) × (ts ≡ t at a ∷ us) × IsOpenBehind n t m
InBlock n ts (Err Stop.Syntax) us = (us ≡ ts) × (ts ≡ [])
InBlock n ts (Err Stop.OutOfMemory) us = ⊤
