-- Pieces that are added to a text, one after another.
use Rattle.std.proofs.Common.{◌≡◌, ℕ, List, ◌++◌, ap, ◌∙◌, append_assoc}

pub three_pieces : (old a b c first second third : List ℕ) → first ≡ old ++ a → second ≡ first ++ b → third ≡ second ++ c → third ≡ old ++ (a ++ (b ++ c))
three_pieces old a b c first second third one two three =
    three ∙ ap (λ t. t ++ c) (two ∙ ap (λ t. t ++ b) one) ∙ append_assoc (old ++ a) b c ∙ append_assoc old a (b ++ c)
