use Rattle.std.proofs.Common.{◌≡◌, ◌<◌, ◌+◌, ◌-◌, ℕ, [], ◌∷◌, ◌++◌, take, drop, get_or, refl, sym, ap, ◌∙◌, arith, append_assoc, length-drop}
use Rattle.std.proofs.lemmas.List.{take_rest, drop-drop, get_or-drop}
use Rattle.grpc_core.specs.Messages.{framed, standing}
use Rattle.grpc_core.specs.declared.message.Standing.TheVariants.{Whole}
use Rattle.grpc_core.proofs.Cutting.{First, message_first, AreMessages-append}
use Rattle.grpc_core.proofs.splitter.split.Goals as goal

pub loop-fault-preserved : goal.loop-fault-preserved
loop-fault-preserved c =
    let i = c.loop-fault.invariant in
    let at = c.loop-fault.at in
    let n = c.in-Whole.size in
    let octets = c.args.octets.now in
    let message = c.in_ok-message-in-Whole.message in
    let fits : (k : ℕ) → get_or (drop at octets) k 0 < 256 = λ k. omega (arith, get_or-drop at octets k 0, c.type_inv.octets (at + k)) in
    let stands : standing (drop at octets) ≡ Whole n = sym (rw take_rest at c.first_in.ensures) ∙ c.in-Whole.is in
    let first : First (drop at octets) n = message_first (drop at octets) n fits stands in
    let size : (at + 5 + n) - (at + 5) ≡ n = omega arith in
    let is : message ≡ take n (drop 5 (drop at octets)) = c.in_ok-message-in-Whole.ensures ∙ ap (λ k. take k (drop (at + 5) octets)) size ∙ ap (λ l. take n l) (sym (drop-drop 5 at octets)) in
    let after : drop (5 + n) (drop at octets) ≡ drop (at + (5 + n)) octets = drop-drop (5 + n) at octets in
    let parts : drop at octets ≡ framed message ++ drop (at + (5 + n)) octets = first.parts ∙ ap (λ x. framed (take n (drop 5 (drop at octets))) ++ x) after ∙ sym (ap (λ x. framed x ++ drop (at + (5 + n)) octets) is) in
    record {
      messages = i.messages ++ message ∷ [];
      within = omega (arith, i.within, first.there, length-drop at octets);
      added = c.in_ok-push-in-Whole.ensures.ok ∙ ap (λ l. l ++ message ∷ []) i.added ∙ append_assoc c.args.out.now i.messages (message ∷ []);
      leading = AreMessages-append octets i.messages (message ∷ []) (drop at octets) (drop (at + (5 + n)) octets) i.leading (drop (at + (5 + n)) octets, parts, rw is first.allowed, refl);
    }
