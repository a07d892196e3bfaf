-- How a wire goes on by its records, as its ports see it.
use Rattle.std.proofs.Common.{◌≡◌, ◌⊎◌, inl, inr, ℕ, ◌≤◌, List, [], ◌∷◌, ◌++◌, length, map, refl, sym, ap, ◌∙◌, subst, arith, append_assoc, append-nil, length-append}
use Rattle.std.proofs.lemmas.List.Concat.{flat_map-append}
use Rattle.environment.specs.Output.{Output, Wrote, FailedWithin}
use Rattle.h2_frame.specs.Frames.{Frame}
use Rattle.h2_windows.specs.Written.{octets_of, spelled}
use Rattle.h2_windows.proofs.Fronts.{wrote_both, wrote_nothing, failed_behind}
use Rattle.h2_events.specs.Items.{Item, written}
use Rattle.h2_events.specs.Items as item
use Rattle.h2_events.proofs.Orders.{written-append}
use Rattle.h2_send.specs.Accepting.{AreAccepted}
use Rattle.h2_send.specs.Acting.{handled}
use Rattle.h2_send.specs.Conditions.{IsClosed}
use Rattle.h2_send.specs.Farewells.{farewell}
use Rattle.h2_send.specs.Inputs.{Input}
use Rattle.h2_send.specs.Lines.{Line, first_line}
use Rattle.h2_send.specs.Orders.{line_after, order_after}
use Rattle.h2_send.specs.Port.{Progress, Ends, GoesOn, line_of}
use Rattle.h2_send.specs.declared.condition.Condition.{Condition}
use Rattle.h2_send.specs.declared.condition.Condition.TheVariants as condition
use Rattle.h2_send.proofs.Offered.{stays}
use Rattle.h2_send.proofs.Orders.{written_all, written_input}
use Rattle.shared_wire.specs.Records.{Deed, Began, Gave, Refused, Ended, Starved, WireRecord, GoesOut, EndsOut, Leaves, Follow, AreRecords, last_behind, left_in}
use Rattle.shared_wire.proofs.Following.{last_append, follow_behind}

-- ---- what more inputs come to

line_more : (line : Line) (xs ys : List Input) → line_after line (xs ++ ys) ≡ line_after (line_after line xs) ys
line_more line [] ys = refl
line_more line (x ∷ xs) ys = line_more (handled x line).line xs ys

accepted_more : (line : Line) (xs ys : List Input) → AreAccepted line xs → AreAccepted (line_after line xs) ys → AreAccepted line (xs ++ ys)
accepted_more line [] ys are more = more
accepted_more line (x ∷ xs) ys are more = (are.0, accepted_more (handled x line).line xs ys are.1 more)

abbrev frames_by : Line → List Input → List Frame
frames_by line inputs = written (order_after line inputs)

one_more : (line : Line) (x : Input) (xs : List Input) → frames_by line (x ∷ xs) ≡ (handled x line).frames ++ frames_by (handled x line).line xs
one_more line x xs =
    let frames = (handled x line).frames in let others = order_after (handled x line).line xs in
    written_input x (map item.Wrote frames ++ others) ∙ written-append (map item.Wrote frames) others ∙ ap (λ fs. fs ++ written others) (written_all frames)

frames_more : (line : Line) (xs ys : List Input) → frames_by line (xs ++ ys) ≡ frames_by line xs ++ frames_by (line_after line xs) ys
frames_more line [] ys = refl
frames_more line (x ∷ xs) ys =
    let frames = (handled x line).frames in let next = (handled x line).line in
    one_more line x (xs ++ ys) ∙ ap (λ fs. frames ++ fs) (frames_more next xs ys)
    ∙ sym (append_assoc frames (frames_by next xs) (frames_by (line_after next xs) ys))
    ∙ ap (λ fs. fs ++ frames_by (line_after next xs) ys) (sym (one_more line x xs))

octets_more : (line : Line) (xs ys : List Input) → octets_of (frames_by line (xs ++ ys)) ≡ octets_of (frames_by line xs) ++ octets_of (frames_by (line_after line xs) ys)
octets_more line xs ys = ap octets_of (frames_more line xs ys) ∙ flat_map-append spelled (frames_by line xs) (frames_by (line_after line xs) ys)

octets_end : (line : Line) (xs ys : List Input) (code : ℕ) → octets_of (frames_by line (xs ++ ys) ++ farewell code (line_after line (xs ++ ys))) ≡ octets_of (frames_by line xs) ++ octets_of (frames_by (line_after line xs) ys ++ farewell code (line_after (line_after line xs) ys))
octets_end line xs ys code =
    let first = frames_by line xs in let second = frames_by (line_after line xs) ys in let last = farewell code (line_after (line_after line xs) ys) in
    (λ i. octets_of (frames_more line xs ys i ++ farewell code (line_more line xs ys i)))
    ∙ ap octets_of (append_assoc first second last) ∙ flat_map-append spelled first (second ++ last)

ends_on : (state : Condition) (line : Line) (xs ys : List Input) (old mid new : Output) → Wrote (octets_of (frames_by line xs)) old mid → Ends state (line_after line xs) ys mid new → Ends state line (xs ++ ys) old new
ends_on condition.New line xs ys old mid new first ends = absurd ends
ends_on condition.Open line xs ys old mid new first ends = tt
ends_on condition.Finished line xs ys old mid new first (code, wrote) = (code, wrote_both old mid new (octets_of (frames_by line xs)) (octets_of (frames_by (line_after line xs) ys ++ farewell code (line_after (line_after line xs) ys))) (octets_of (frames_by line (xs ++ ys) ++ farewell code (line_after line (xs ++ ys)))) (octets_end line xs ys code) first wrote)
ends_on condition.WriteFault line xs ys old mid new first (code, failed) = (code, failed_behind old mid new (octets_of (frames_by line xs)) (octets_of (frames_by (line_after line xs) ys ++ farewell code (line_after (line_after line xs) ys))) (octets_of (frames_by line (xs ++ ys) ++ farewell code (line_after line (xs ++ ys)))) (octets_end line xs ys code) first failed)
ends_on condition.NoMemory line xs ys old mid new first (before, lost, one, are, wrote) = (xs ++ before, lost, one, ap (λ is. xs ++ is) are ∙ sym (append_assoc xs before lost), wrote_both old mid new (octets_of (frames_by line xs)) (octets_of (frames_by (line_after line xs) before)) (octets_of (frames_by line (xs ++ before))) (octets_more line xs before) first wrote)

none_behind : {E : Type 0} (xs ys : List E) → xs ++ ys ≡ xs → ys ≡ []
none_behind xs [] is = refl
none_behind xs (y ∷ ys) is = let long = length-append xs (y ∷ ys) in let same = ap length is in absurd (omega (arith, long, same))

-- ---- one after the other

module _ (a b c : Progress) (g : GoesOn a b) (h : GoesOn b c) where
  line_b : line_of b ≡ line_after (line_of a) g.others
  line_b = ap (line_after first_line) g.inputs ∙ line_more first_line a.inputs g.others

  by_state : (state : Condition) → b.condition ≡ state → a.condition ≡ condition.Open → (b.condition ≡ condition.Open) ⊎ (c ≡ b)
  by_state condition.New is is_open = absurd (subst (λ s. Ends s (line_of a) g.others a.output b.output) is (g.ended is_open))
  by_state condition.Open is is_open = inl is
  by_state condition.Finished is is_open = inr (h.closed (subst IsClosed (sym is) tt))
  by_state condition.WriteFault is is_open = inr (h.closed (subst IsClosed (sym is) tt))
  by_state condition.NoMemory is is_open = inr (h.closed (subst IsClosed (sym is) tt))

  ends_later : a.condition ≡ condition.Open → b.condition ≡ condition.Open → Ends c.condition (line_of a) (g.others ++ h.others) a.output c.output
  ends_later is_open mid = ends_on c.condition (line_of a) g.others h.others a.output b.output c.output (g.wrote is_open mid) (subst (λ l. Ends c.condition l h.others b.output c.output) line_b (h.ended mid))

  ends_before : a.condition ≡ condition.Open → c ≡ b → Ends c.condition (line_of a) (g.others ++ h.others) a.output c.output
  ends_before is_open same =
      let none : h.others ≡ [] = none_behind b.inputs h.others (sym h.inputs ∙ ap (λ p. p.inputs) same) in
      subst (λ is. Ends c.condition (line_of a) is a.output c.output) (sym (ap (λ is. g.others ++ is) none ∙ append-nil g.others))
      (subst (λ (p : Progress). Ends p.condition (line_of a) g.others a.output p.output) (sym same) (g.ended is_open))

  ends_both : a.condition ≡ condition.Open → (b.condition ≡ condition.Open) ⊎ (c ≡ b) → Ends c.condition (line_of a) (g.others ++ h.others) a.output c.output
  ends_both is_open (inl mid) = ends_later is_open mid
  ends_both is_open (inr same) = ends_before is_open same

  wrote_on : a.condition ≡ condition.Open → c.condition ≡ condition.Open → b.condition ≡ condition.Open → Wrote (octets_of (frames_by (line_of a) (g.others ++ h.others))) a.output c.output
  wrote_on is_open then_ mid = wrote_both a.output b.output c.output (octets_of (frames_by (line_of a) g.others)) (octets_of (frames_by (line_after (line_of a) g.others) h.others)) (octets_of (frames_by (line_of a) (g.others ++ h.others))) (octets_more (line_of a) g.others h.others) (g.wrote is_open mid) (subst (λ l. Wrote (octets_of (frames_by l h.others)) b.output c.output) line_b (h.wrote mid then_))

  wrote_later : a.condition ≡ condition.Open → c.condition ≡ condition.Open → (b.condition ≡ condition.Open) ⊎ (c ≡ b) → Wrote (octets_of (frames_by (line_of a) (g.others ++ h.others))) a.output c.output
  wrote_later is_open then_ (inl mid) = wrote_on is_open then_ mid
  wrote_later is_open then_ (inr same) = wrote_on is_open then_ (ap (λ p. p.condition) (sym same) ∙ then_)

  pub goes_further : GoesOn a c
  goes_further = record {
    others = g.others ++ h.others;
    inputs = h.inputs ∙ ap (λ is. is ++ h.others) g.inputs ∙ append_assoc a.inputs g.others h.others;
    accepted = accepted_more (line_of a) g.others h.others g.accepted (subst (λ l. AreAccepted l h.others) line_b h.accepted);
    wrote = λ is_open then_. wrote_later is_open then_ (by_state b.condition refl is_open);
    ended = λ is_open. ends_both is_open (by_state b.condition refl is_open);
    faults = let one = g.faults in let two = h.faults in omega (arith, one, two);
    closed = λ is. h.closed (subst (λ (p : Progress). IsClosed p.condition) (sym (g.closed is)) is) ∙ g.closed is;
  }

-- ---- one call

module _ (at left : Progress) (is_open : at.condition ≡ condition.Open) where
  never_closed : IsClosed at.condition → left ≡ at
  never_closed is = absurd (subst IsClosed is_open is)

  frames_one : (input : Input) → octets_of (frames_by (line_of at) (input ∷ [])) ≡ octets_of (handled input (line_of at)).frames
  frames_one input = ap octets_of (one_more (line_of at) input [] ∙ append-nil (handled input (line_of at)).frames)

  gave_ends : (state : Condition) (input : Input) (out : Output) → GoesOut state input at out → Ends state (line_of at) (input ∷ []) at.output out
  gave_ends condition.New input out never = absurd never
  gave_ends condition.Open input out wrote = tt
  gave_ends condition.Finished input out never = absurd never
  gave_ends condition.WriteFault input out failed = (0, subst (λ os. FailedWithin os at.output out) (sym (ap octets_of (append-nil (frames_by (line_of at) (input ∷ []))) ∙ frames_one input)) failed)
  gave_ends condition.NoMemory input out same = ([], input ∷ [], omega arith, refl, wrote_nothing at.output out same)

  gave_faults : (state : Condition) (input : Input) (out : Output) → GoesOut state input at out → at.output.faults ≤ out.faults
  gave_faults condition.New input out never = absurd never
  gave_faults condition.Open input out wrote = let e = ap (λ (o : Output). o.faults) wrote in omega (arith, e)
  gave_faults condition.Finished input out never = absurd never
  gave_faults condition.WriteFault input out (n, less, last) = let e = ap (λ (o : Output). o.faults) last in omega (arith, e)
  gave_faults condition.NoMemory input out same = let e = ap (λ (o : Output). o.faults) same in omega (arith, e)

  end_ends : (state : Condition) (code : ℕ) (out : Output) → EndsOut state code at out → Ends state (line_of at) [] at.output out
  end_ends condition.New code out never = absurd never
  end_ends condition.Open code out never = absurd never
  end_ends condition.Finished code out wrote = (code, wrote)
  end_ends condition.WriteFault code out failed = (code, failed)
  end_ends condition.NoMemory code out never = absurd never

  end_faults : (state : Condition) (code : ℕ) (out : Output) → EndsOut state code at out → at.output.faults ≤ out.faults
  end_faults condition.New code out never = absurd never
  end_faults condition.Open code out never = absurd never
  end_faults condition.Finished code out wrote = let e = ap (λ (o : Output). o.faults) wrote in omega (arith, e)
  end_faults condition.WriteFault code out (n, less, last) = let e = ap (λ (o : Output). o.faults) last in omega (arith, e)
  end_faults condition.NoMemory code out never = absurd never

  pub goes_by : (deed : Deed) → Leaves deed at left → GoesOn at left
  goes_by Began never = absurd never
  goes_by (Gave input) (accepted, grows, out) = record {
    others = input ∷ [];
    inputs = grows;
    accepted = (accepted, tt);
    wrote = λ was is. subst (λ os. Wrote os at.output left.output) (sym (frames_one input)) (subst (λ s. GoesOut s input at left.output) is out);
    ended = λ was. gave_ends left.condition input left.output out;
    faults = gave_faults left.condition input left.output out;
    closed = never_closed;
  }
  goes_by (Refused input) (refused, same) = subst (GoesOn at) (sym same) (stays at)
  goes_by (Ended code) (inputs, out) = record {
    others = [];
    inputs = inputs ∙ sym (append-nil at.inputs);
    accepted = tt;
    wrote = λ was is. absurd (subst (λ s. EndsOut s code at left.output) is out);
    ended = λ was. end_ends left.condition code left.output out;
    faults = end_faults left.condition code left.output out;
    closed = never_closed;
  }
  goes_by (Starved input) same = subst (GoesOn at) (sym same) (record {
    others = [];
    inputs = sym (append-nil at.inputs);
    accepted = tt;
    wrote = λ was is. absurd cc;
    ended = λ was. ([], [], omega arith, refl, wrote_nothing at.output at.output refl);
    faults = omega arith;
    closed = λ is. absurd (subst IsClosed is_open is);
  })

-- ---- all of them

pub goes_on : (before : WireRecord) (rs : List WireRecord) → Follow before rs → GoesOn before.left (last_behind before rs).left
goes_on before [] follow = stays before.left
goes_on before (r ∷ rs) follow = goes_further before.left r.left (last_behind r rs).left (goes_by before.left r.left follow.0 r.deed follow.1) (goes_on r rs follow.3)

pub goes_on_behind : (first : WireRecord) (seen more : List WireRecord) → AreRecords (first ∷ seen ++ more) → GoesOn (left_in (first ∷ seen)) (left_in (first ∷ seen ++ more))
goes_on_behind first seen more are = subst (λ (r : WireRecord). GoesOn (last_behind first seen).left r.left) (sym (last_append first seen more)) (goes_on (last_behind first seen) more (follow_behind first seen more are.2))
