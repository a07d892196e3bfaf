-- What each line keeps of what was read, the lines of a text keep.
use Rattle.std.proofs.Common.{ℕ, ◌+◌, List, [], ◌∷◌, Bool, true, false, cond, length, Result, Ok, Err}
use Rattle.schema_text.specs.declared.cause.Cause.{Cause}
use Rattle.base_lists.specs.Results.{and_then}
use Rattle.schema_text.specs.declared.cause.Cause.TheVariants.{TooLarge, Syntax}
use Rattle.schema_text.specs.declared.cause.SchemaFault.{SchemaFault}
use Rattle.schema_text.specs.Grammar.{line_of}
use Rattle.schema_text.specs.Schemas.{Read, with_line, is_too_long, with_part, at_line, read_parts}

module _ (P : Read → Type 0) where
  abbrev pub Keeps : {E : Type 0} → Result Read E → Type 0
  Keeps (Ok read) = P read
  Keeps (Err fault) = Unit {0}

  pub kept_if : (b : Bool) (cause : Cause) (other : Result Read Cause) → Keeps other → Keeps (cond b (Err cause) other)
  kept_if true cause other kept = tt
  kept_if false cause other kept = kept

  kept_either : (b : Bool) (cause other : Cause) → Keeps (cond b (Err cause) (Err other))
  kept_either true cause other = tt
  kept_either false cause other = tt

  kept_then : (number : ℕ) (part : Result Read Cause) (next : Read → Result Read SchemaFault) → Keeps part → ((more : Read) → P more → Keeps (next more)) → Keeps (and_then (at_line number part) next)
  kept_then number (Ok more) next kept then = then more kept
  kept_then number (Err cause) next kept then = tt

  module _ (kept_line : (number : ℕ) (read : Read) (octets : List ℕ) → P read → Keeps (with_line number read (line_of octets))) where
    kept_part : (number place : ℕ) (read : Read) (part : List ℕ) (parts : List (List ℕ)) → P read → Keeps (with_part number place read part parts)
    kept_part number place read [] [] before = before
    kept_part number place read (octet ∷ octets) [] before = kept_either (is_too_long (octet ∷ octets) place 0) TooLarge Syntax
    kept_part number place read part (next ∷ parts) before = kept_if (is_too_long part place 1) TooLarge (with_line number read (line_of part)) (kept_line number read part before)

    pub kept_parts : (number place : ℕ) (read : Read) (parts : List (List ℕ)) → P read → Keeps (read_parts number place read parts)
    kept_parts number place read [] before = before
    kept_parts number place read (part ∷ parts) before = kept_then number (with_part number place read part parts) (λ more. read_parts (number + 1) (place + length part + 1) more parts) (kept_part number place read part parts before) (λ more kept. kept_parts (number + 1) (place + length part + 1) more parts kept)
