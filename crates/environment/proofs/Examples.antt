-- The definitions at plain values.
use Rattle.std.proofs.Common.{◌≡◌, ◌-◌, ◌^◌, [], ◌∷◌, true, false, decimal, codes, refl, sym, ap, ◌∙◌, ◌++◌, lit<, lit≤}
use Rattle.std.proofs.lemmas.Fmt.{decimal_digit, decimal_step}
use Rattle.environment.specs.Input.{unread_input, input_after, input_with_fault}
use Rattle.environment.specs.Memory.{next_count, IsToFail, source_after, source_with_fault, sink_with, starved_sink}

counts_from_one : next_count 0 ≡ 1
counts_from_one = refl

stands_still : next_count (2 ^ 64 - 1) ≡ 2 ^ 64 - 1
stands_still = refl

twelve : decimal 12 ≡ codes "12"
twelve = decimal_step 12 (lit≤ tt) (lit< tt) ∙ ap (λ r. r ++ 50 ∷ []) (decimal_digit 1 (lit< tt))

-- the third call of a source fails where its list has 3
third_fails : IsToFail (codes "12" ∷ codes "3" ∷ []) 2
third_fails = (1, lit< tt, sym (decimal_digit 3 (lit< tt)))

takes_two : source_after 2 (codes "abx") (record { octets = codes "abc"; past = input_with_fault unread_input; calls = 4; fails = [] }) ≡ record { octets = codes "c"; past = record unread_input { given = codes "ab"; faults = 1 }; calls = 5; fails = [] }
takes_two = refl

-- a read that gives nothing into a buffer with room finds the end, and one into a buffer without room tells nothing
finds_end : input_after 0 (codes "x") unread_input ≡ record unread_input { ended = true }
finds_end = refl

has_no_room : input_after 0 [] (record unread_input { ended = true }) ≡ record unread_input { ended = true }
has_no_room = refl

fails_once : source_with_fault (record { octets = codes "abc"; past = input_with_fault unread_input; calls = 4; fails = [] }) ≡ record { octets = codes "abc"; past = record unread_input { faults = 2 }; calls = 5; fails = [] }
fails_once = refl

adds : sink_with (codes "c") (record { seen = record { taken = codes "ab"; faults = 0 }; calls = 1; fails = []; starved = false }) ≡ record { seen = record { taken = codes "abc"; faults = 0 }; calls = 2; fails = []; starved = false }
adds = refl

starves : starved_sink (record { seen = record { taken = codes "ab"; faults = 0 }; calls = 1; fails = []; starved = false }) ≡ record { seen = record { taken = codes "ab"; faults = 1 }; calls = 2; fails = []; starved = true }
starves = refl
