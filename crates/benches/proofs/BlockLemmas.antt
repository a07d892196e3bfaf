-- Blocks that are read one after the other.
use Rattle.std.proofs.Common.{◌≡◌, ℕ, List, [], ◌∷◌, fold, Result, Ok, Err, refl, sym, ap, subst, arith}
use Rattle.hpack_block.specs.declared.header.Header.{Header}
use Rattle.hpack_block.specs.declared.header.BlockFault.{BlockFault}
use Rattle.hpack_block.specs.declared.header.BlockFault.TheVariants.{Bad, TooLong}
use Rattle.hpack_block.specs.Tables.{Table, empty_table, size_of_all}
use Rattle.hpack_block.specs.Answers.{State, Answers}
use Rattle.hpack_block.proofs.BlockLemmas.{one_block}
use Rattle.benches.specs.Blocks.{mixed, ReadsBlocks}

-- what all blocks give is what those that are left give with the decoder's table
pub record Reading (before : ℕ) (blocks : List (List ℕ)) (state : State) (left : List (List ℕ)) (checksum : ℕ) : Type 0 where
  pub table : Table
  pub alive : state ≡ Ok table
  pub built : (all : ℕ) → ReadsBlocks table left checksum all → ReadsBlocks empty_table blocks before all
  pub only : (all : ℕ) → ReadsBlocks empty_table blocks before all → ReadsBlocks table left checksum all

pub Reading-none : (before : ℕ) (blocks : List (List ℕ)) (state : State) → state ≡ Ok empty_table → Reading before blocks state blocks before
Reading-none before blocks state e = record { table = empty_table; alive = e; built = λ all r. r; only = λ all r. r }

answers_at : (state : State) (table : Table) (octets : List ℕ) (result : Result (List Header) BlockFault) (new : State) → state ≡ Ok table → Answers state octets result new → Answers (Ok table) octets result new
answers_at state table octets result new e a = subst (λ (s : State). Answers s octets result new) e a

pub Reading-more : (before : ℕ) (blocks : List (List ℕ)) (state : State) (left : List (List ℕ)) (checksum : ℕ) (block : List ℕ) (more : List (List ℕ)) (headers : List Header) (new : State) (next : ℕ)
    → Reading before blocks state left checksum → left ≡ block ∷ more → Answers state block (Ok headers) new → next ≡ fold mixed checksum headers → Reading before blocks new more next
Reading-more before blocks state left checksum block more headers new next r e a n =
    let is = answers_at state r.table block (Ok headers) new r.alive a in
    record {
      table = is.last;
      alive = is.new_is;
      built = λ all rest.
          r.built all
          (subst (λ (bs : List (List ℕ)). ReadsBlocks r.table bs checksum all) (sym e)
          (headers, is.last, is.block, is.short, subst (λ (m : ℕ). ReadsBlocks is.last more m all) n rest));
      only = λ all whole.
          let found : ReadsBlocks r.table (block ∷ more) checksum all = subst (λ (bs : List (List ℕ)). ReadsBlocks r.table bs checksum all) e (r.only all whole) in
          let same = one_block block r.table found.0 headers found.1 is.last found.2 is.block in
          subst (λ (m : ℕ). ReadsBlocks is.last more m all) (sym n)
          (subst (λ (t : Table). ReadsBlocks t more (fold mixed checksum headers) all) same.1
          (subst (λ (hs : List Header). ReadsBlocks found.1 more (fold mixed checksum hs) all) same.0 found.4));
    }

pub Reading-end : (before : ℕ) (blocks : List (List ℕ)) (state : State) (left : List (List ℕ)) (checksum : ℕ) → Reading before blocks state left checksum → left ≡ [] → ReadsBlocks empty_table blocks before checksum
Reading-end before blocks state left checksum r e = r.built checksum (subst (λ (bs : List (List ℕ)). ReadsBlocks r.table bs checksum checksum) (sym e) refl)

pub Reading-bad : (before : ℕ) (blocks : List (List ℕ)) (state : State) (left : List (List ℕ)) (checksum : ℕ) (block : List ℕ) (more : List (List ℕ)) (new : State)
    → Reading before blocks state left checksum → left ≡ block ∷ more → Answers state block (Err Bad) new → (all : ℕ) → ReadsBlocks empty_table blocks before all → ⊥
Reading-bad before blocks state left checksum block more new r e a all whole =
    let is = answers_at state r.table block (Err Bad) new r.alive a in
    let found : ReadsBlocks r.table (block ∷ more) checksum all = subst (λ (bs : List (List ℕ)). ReadsBlocks r.table bs checksum all) e (r.only all whole) in
    is.0 found.0 found.1 found.2

pub Reading-too_long : (before : ℕ) (blocks : List (List ℕ)) (state : State) (left : List (List ℕ)) (checksum : ℕ) (block : List ℕ) (more : List (List ℕ)) (new : State)
    → Reading before blocks state left checksum → left ≡ block ∷ more → Answers state block (Err TooLong) new → (all : ℕ) → ReadsBlocks empty_table blocks before all → ⊥
Reading-too_long before blocks state left checksum block more new r e a all whole =
    let is = answers_at state r.table block (Err TooLong) new r.alive a in
    let found : ReadsBlocks r.table (block ∷ more) checksum all = subst (λ (bs : List (List ℕ)). ReadsBlocks r.table bs checksum all) e (r.only all whole) in
    let same = one_block block r.table found.0 is.headers found.1 is.last found.2 is.block in
    let short = found.3 in
    let long = is.long in
    absurd (omega (arith, short, long, ap size_of_all same.0))
