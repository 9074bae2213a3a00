-- What is handed over to a sink through a buffer: this project's own.
use Rattle.std.specs.Prelude.{◌≡◌, ℕ, ◌≤◌, ⊤, List, ◌++◌, Option, Some, None, is_some}
use Rattle.outside.specs.Counts.{Rose}
use Rattle.outside.specs.Devices.{AppendsFront}

-- what the sink has taken, where it tells, what waits in the buffer, and the sink's count of faults
pub record Progress : Type 0 where
  pub taken : Option (List ℕ)
  pub held : List ℕ
  pub faults : ℕ

abbrev pub progress : Option (List ℕ) → List ℕ → ℕ → Progress
progress taken held faults = record { taken = taken; held = held; faults = faults }

-- what was held and these bytes are what known bytes have grown by and what is held now
abbrev pub Grows : Option (List ℕ) → List ℕ → Option (List ℕ) → List ℕ → List ℕ → Type 0
Grows None held new held_now bytes = ⊤
Grows (Some xs) held None held_now bytes = ⊥
Grows (Some xs) held (Some ys) held_now bytes = (front : List ℕ) × (ys ≡ xs ++ front) × (held ++ bytes ≡ front ++ held_now)

-- the bytes are handed over or held, without a fault
pub record Sends (old now : Progress) (bytes : List ℕ) : Type 0 where
  pub grown : Grows old.taken old.held now.taken now.held bytes
  pub told : is_some now.taken ≡ is_some old.taken
  pub faults : now.faults ≡ old.faults

-- the count of faults rose, and of what was held and of the bytes a front was taken
pub record Fails (old now : Progress) (bytes : List ℕ) : Type 0 where
  pub front : AppendsFront old.taken now.taken (old.held ++ bytes)
  pub told : is_some now.taken ≡ is_some old.taken
  pub later : old.faults ≤ now.faults
  pub rose : Rose old.faults now.faults
