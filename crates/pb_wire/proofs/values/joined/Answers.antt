use Rattle.std.proofs.Common.{ℕ, List, ◌++◌, take, sym, ap, subst, ◌∙◌, append_assoc}
use Rattle.std.specs.List.{concat}
use Rattle.pb_wire.specs.declared.field.Field.{Field}
use Rattle.base_lists.specs.Fronts.{AppendsFront}
use Rattle.pb_wire.specs.Values.{occurrences, joined_octets}
use Rattle.pb_wire.proofs.ValueLemmas.{no_field, on_err_from, is_some_of, is_some_of-push, occurrences-none, occurrences-some, joined_octets-some, joined_octets-front}
use Rattle.pb_wire.proofs.values.joined.Goals as goal
use Rattle.pb_wire.proofs.values.joined.Goals.{in-Some+in_ok-extend_from_slice, in_default}

pub returns-in_err-extend_from_slice-clause-err : goal.returns-in_err-extend_from_slice-clause-err
returns-in_err-extend_from_slice-clause-err c =
    let out = c.extend_from_slice.new.self in
    let front : AppendsFront c.args.out.now out (joined_octets c.args.octets.now c.args.number c.args.fields.now) =
    joined_octets-front c.args.out.now out c.args.octets.now c.args.number c.args.fields.now c.loop-field.field-index (c.in_err-extend_from_slice.ensures.err ∙ c.loop-field.invariant.added) in
    on_err_from c.from_residual.result front

pub loop-field-preserved : goal.loop-field-preserved
loop-field-preserved c =
    let fields = c.args.fields.now in
    let i = c.loop-field.field-index in
    let so_far = joined_octets c.args.octets.now c.args.number (take i fields) in
    elim c.match-octets_of.branch [
      | in-Some+in_ok-extend_from_slice w ↦ record {
        added = w.out-is ∙ w.in_ok-extend_from_slice.ensures.ok ∙ ap (λ (s : List ℕ). s ++ w.in-Some.piece.now) c.loop-field.invariant.added ∙ append_assoc c.args.out.now so_far w.in-Some.piece.now
            ∙ ap (λ (s : List ℕ). c.args.out.now ++ s) (sym (joined_octets-some c.args.octets.now c.args.number fields i no_field w.in-Some.piece.now c.loop-field-test.true (sym w.in-Some.ensures)));
        stands = w.there-is ∙ sym (ap (λ (found : List (List ℕ)). is_some_of found) (occurrences-some c.args.octets.now c.args.number fields i no_field w.in-Some.piece.now c.loop-field-test.true (sym w.in-Some.ensures)) ∙ is_some_of-push (occurrences c.args.octets.now c.args.number (take i fields)) w.in-Some.piece.now);
      }
      | in_default w ↦
          let same = occurrences-none c.args.octets.now c.args.number fields i no_field c.loop-field-test.true (sym w.in_default.ensures) in
          record {
            added = w.out-is ∙ c.loop-field.invariant.added ∙ ap (λ (found : List (List ℕ)). c.args.out.now ++ concat found) (sym same);
            stands = w.there-is ∙ c.loop-field.invariant.stands ∙ ap (λ (found : List (List ℕ)). is_some_of found) (sym same);
          }
    ]
