-- Something that has a name on disk.
use Rattle.std.specs.Prelude.{ℕ, List}

pub record NamedShown (T : Type 0) : Type 0 where
  pub name : List ℕ
  pub what : T
