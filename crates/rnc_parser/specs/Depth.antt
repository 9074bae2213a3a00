-- The counts that a walk over tokens keeps.
use Rattle.std.specs.Prelude.{◌≡◌, suc, ◌+◌, ◌==◌, ◌&&◌, Bool, if◌then◌else◌, List}
use Rattle.token_laws.specs.Tokens.{Token, Placed}
use Rattle.grammar_laws.specs.Nesting.{opens, closes, opens_block, closes_block, count, counting}
use Rattle.rnc_parser.specs.declared.nesting.Counts.{Counts}

-- the counts are those of the tokens
pub record AreCounts (ts : List Placed) (c : Counts) : Type 0 where
  pub blocks_opened : c.blocks_opened ≡ count opens_block ts
  pub blocks_closed : c.blocks_closed ≡ count closes_block ts
  pub opened : c.opened ≡ count opens (counting 0 0 ts)
  pub closed : c.closed ≡ count closes (counting 0 0 ts)

-- no block holds what comes behind the counted tokens
abbrev pub counts_here : Counts → Bool
counts_here c = c.blocks_opened == c.blocks_closed

-- the counts behind one more token
abbrev pub behind : Counts → Token → Counts
behind c t = record {
  blocks_opened = if opens_block t then suc c.blocks_opened else c.blocks_opened;
  blocks_closed = if closes_block t then suc c.blocks_closed else c.blocks_closed;
  opened = if counts_here c && opens t then suc c.opened else c.opened;
  closed = if counts_here c && closes t then suc c.closed else c.closed;
}

-- the token is a `{` or `(` of nesting level 129
abbrev pub is_too_deep : Counts → Token → Bool
is_too_deep c t = opens t && (counts_here c && (c.opened == 128 + c.closed))
