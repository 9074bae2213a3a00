-- What a sink takes of bytes that are handed over: this project's own.
use Rattle.std.specs.Prelude.{◌≡◌, ℕ, ◌≤◌, List, Option, is_some}
use Rattle.std.specs.Io.KnownBytes.{Appends}
use Rattle.outside.specs.Counts.{Rose}
use Rattle.outside.specs.Devices.{AppendsFront}

-- the bytes were taken, without a fault
pub record Sends (taken now : Option (List ℕ)) (faults faults_now : ℕ) (bytes : List ℕ) : Type 0 where
  pub grown : Appends taken now bytes
  pub told : is_some now ≡ is_some taken
  pub kept : faults_now ≡ faults

-- a front of the bytes was taken, and the count of faults rose
pub record Fails (taken now : Option (List ℕ)) (faults faults_now : ℕ) (bytes : List ℕ) : Type 0 where
  pub front : AppendsFront taken now bytes
  pub told : is_some now ≡ is_some taken
  pub later : faults ≤ faults_now
  pub rose : Rose faults faults_now
