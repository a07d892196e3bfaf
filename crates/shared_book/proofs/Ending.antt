-- What a later history has behind what a port had seen that ended by meeting another.
use Rattle.std.proofs.Common.{◌≡◌, List, [], ◌∷◌, ◌++◌, length, drop, sym, ap, ◌∙◌, subst, append-nil, append_assoc}
use Rattle.std.proofs.lemmas.List.{append_cancel_left}
use Rattle.std.specs.List.{AllByRecursion}
use Rattle.base_kinds.specs.declared.entry.Entry.{Entry}
use Rattle.book_port.specs.Chronicles.{entries_by}
use Rattle.book_port.specs.Follows.{OthersWentOn}
use Rattle.book_port.specs.Ports.{PortView, PortEnd, Meets, HasJustMade, end_of}
use Rattle.book_port.proofs.Chronicled.{entries_by_more}
use Rattle.book_port.proofs.Following.{dropped, others_again}

met_among : (P : PortEnd → Type 0) (before later : List PortEnd) (port : PortEnd) → AllByRecursion P (before ++ port ∷ later) → P port
met_among P [] later port all = all.0
met_among P (first ∷ before) later port all = met_among P before later port all.1

module _ (old other new : PortView) (since more h : List Entry) (meets : Meets old other new) (grown : other.seen ≡ other.start ++ since) (whole : h ≡ new.seen ++ more) (just : HasJustMade h (end_of other)) where
  abbrev behind : List Entry
  behind = since ++ meets.has_other.others

  then_made : HasJustMade new.seen (end_of other)
  then_made = met_among (HasJustMade new.seen) old.met other.met (end_of other) (subst (AllByRecursion (HasJustMade new.seen)) (ap (λ port. port.met) meets.new_is) meets.has_made.1)

  seen_is : new.seen ≡ other.start ++ behind
  seen_is = meets.has_other.whole ∙ ap (λ l. l ++ meets.has_other.others) grown ∙ append_assoc other.start since meets.has_other.others

  made_then : entries_by other.author behind ≡ other.made
  made_then = ap (entries_by other.author) (sym (ap (drop (length other.start)) seen_is ∙ dropped other.start behind)) ∙ then_made

  later_is : drop (length other.start) h ≡ behind ++ more
  later_is = ap (drop (length other.start)) (whole ∙ ap (λ l. l ++ more) seen_is ∙ append_assoc other.start behind more) ∙ dropped other.start (behind ++ more)

  none_more : entries_by other.author more ≡ []
  none_more = append_cancel_left other.made (entries_by other.author more) [] (
      ap (λ l. l ++ entries_by other.author more) (sym made_then) ∙ sym (entries_by_more other.author behind more)
      ∙ ap (entries_by other.author) (sym later_is) ∙ just ∙ sym (append-nil other.made))

  pub met_went_on : OthersWentOn other.author other.seen h
  met_went_on = others_again other.author other.seen new.seen h meets.has_other (record { others = more; whole = whole; none = none_more })
