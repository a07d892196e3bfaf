-- A script's run, line by line.
use Rattle.std.proofs.Common.{◌≡◌, Some, None, ℕ, ◌+◌, ◌<◌, ◌≤◌, List, [], ◌∷◌, ◌++◌, Bool, true, false, length, take, codes, refl, sym, ap, ◌∙◌, subst, inl, inr, ◌⊎◌, arith, append_assoc, length-append, if◌then◌else◌}
use Rattle.std.proofs.lemmas.Bool.Decides.{nat_tests}
use Rattle.std.proofs.lemmas.List.{append-nil, take-append-le}
use Rattle.base_kinds.specs.declared.entry.Limits.{Limits}
use Rattle.base_kinds.specs.Schema.{SchemaNode}
use Rattle.script_text.specs.declared.line.Line.{Line}
use Rattle.script_text.specs.Grammar.{IsLine}
use Rattle.script_text.specs.Lines.{lines_of}
use Rattle.log_text.specs.Logs.{log_text}
use Rattle.base_kinds.specs.Limits.{most_script_octets}
use Rattle.script_run.specs.ScriptOctets.{is_too_long, to_last_feed, within_limit}
use Rattle.script_run.specs.ScriptStates.{ScriptState, new_state}
use Rattle.script_run.specs.declared.run.ScriptEnd.{ScriptEnd}
use Rattle.script_run.specs.declared.run.ScriptEnd.TheVariants.{Whole, Refused, DiskFault}
use Rattle.script_run.specs.inner.Replies.{Acts}
use Rattle.script_run.specs.inner.ScriptEnds.{text_at_end}
use Rattle.script_run.specs.Scripts.{refused_line, Prints, RunsScript}

-- what the lines from this number on print, behind this text, is what all lines print
abbrev pub Leads : Bool → List (List ℕ) → ScriptState → ℕ → List (List ℕ) → ScriptState → List ℕ → Type 0
Leads goes_on all start number lines state text = (rest : List ℕ) (ending : ScriptEnd) → Prints goes_on number lines state rest ending → Prints goes_on 1 all start (text ++ rest) ending

pub begins : (goes_on : Bool) (all : List (List ℕ)) (start : ScriptState) → Leads goes_on all start 1 all start []
begins goes_on all start rest ending prints = prints

pub taken : (goes_on : Bool) (all : List (List ℕ)) (start : ScriptState) (number : ℕ) (lines : List (List ℕ)) (octets : List ℕ) (others : List (List ℕ)) (state next : ScriptState) (text longer : List ℕ) (line : Line) → Leads goes_on all start number lines state text → lines ≡ octets ∷ others → IsLine octets line → Acts line state next text longer true → Leads goes_on all start (number + 1) others next longer
taken goes_on all start number lines octets others state next text longer line leads first meaning acts rest ending prints =
    let prints_so : Prints goes_on number (octets ∷ others) state (acts.printed ++ rest) ending = inl (record { line = line; meaning = meaning; printed = acts.printed; next = Some next; takes = acts.takes; rest = rest; whole = refl; goes_on = prints }) in
    let run : Prints goes_on 1 all start (text ++ (acts.printed ++ rest)) ending = leads (acts.printed ++ rest) ending (subst (λ ls. Prints goes_on number ls state (acts.printed ++ rest) ending) (sym first) prints_so) in
    subst (λ t. Prints goes_on 1 all start t ending) (sym (append_assoc text acts.printed rest) ∙ ap (λ t. t ++ rest) (sym acts.added)) run

-- no book could be opened behind a stop
pub stuck : (goes_on : Bool) (all : List (List ℕ)) (start : ScriptState) (number : ℕ) (lines : List (List ℕ)) (octets : List ℕ) (others : List (List ℕ)) (state next : ScriptState) (text longer last : List ℕ) (line : Line) → Leads goes_on all start number lines state text → lines ≡ octets ∷ others → IsLine octets line → Acts line state next text longer false → last ≡ longer ++ codes "disk fault\n" → Prints goes_on 1 all start (last ++ []) DiskFault
stuck goes_on all start number lines octets others state next text longer last line leads first meaning acts grown =
    let rest = codes "disk fault\n" in
    let prints_so : Prints goes_on number (octets ∷ others) state (acts.printed ++ rest) DiskFault = inl (record { line = line; meaning = meaning; printed = acts.printed; next = None; takes = acts.takes; rest = rest; whole = refl; goes_on = (refl, refl) }) in
    let run : Prints goes_on 1 all start (text ++ (acts.printed ++ rest)) DiskFault = leads (acts.printed ++ rest) DiskFault (subst (λ ls. Prints goes_on number ls state (acts.printed ++ rest) DiskFault) (sym first) prints_so) in
    subst (λ t. Prints goes_on 1 all start t DiskFault) (sym (append_assoc text acts.printed rest) ∙ ap (λ t. t ++ rest) (sym acts.added) ∙ sym grown ∙ sym (append-nil last)) run

pub refused : (goes_on : Bool) (all : List (List ℕ)) (start : ScriptState) (number : ℕ) (lines : List (List ℕ)) (octets : List ℕ) (others : List (List ℕ)) (state : ScriptState) (text longer : List ℕ) → Leads goes_on all start number lines state text → lines ≡ octets ∷ others → ((line : Line) → IsLine octets line → ⊥) → longer ≡ text ++ refused_line number → Prints goes_on 1 all start (longer ++ []) Refused
refused goes_on all start number lines octets others state text longer leads first none_fits grown =
    let prints_so : Prints goes_on number (octets ∷ others) state (refused_line number) Refused = inr (none_fits, refl, refl) in
    subst (λ t. Prints goes_on 1 all start t Refused) (sym grown ∙ sym (append-nil longer)) (leads (refused_line number) Refused (subst (λ ls. Prints goes_on number ls state (refused_line number) Refused) (sym first) prints_so))

pub ended : (goes_on : Bool) (all : List (List ℕ)) (start : ScriptState) (number : ℕ) (lines : List (List ℕ)) (state : ScriptState) (text : List ℕ) → goes_on ≡ false → Leads goes_on all start number lines state text → lines ≡ [] → Prints goes_on 1 all start (text ++ text_at_end Whole state.history) Whole
ended goes_on all start number lines state text ends leads none =
    let log = codes "log\n" ++ log_text state.history in
    let prints_so : Prints false number [] state log Whole = (refl, refl) in
    let here : Prints goes_on number [] state log Whole = subst (λ b. Prints b number [] state log Whole) (sym ends) prints_so in
    leads log Whole (subst (λ ls. Prints goes_on number ls state log Whole) (sym none) here)

pub cut_off : (goes_on : Bool) (all : List (List ℕ)) (start : ScriptState) (number : ℕ) (lines : List (List ℕ)) (state : ScriptState) (text longer : List ℕ) → goes_on ≡ true → Leads goes_on all start number lines state text → lines ≡ [] → longer ≡ text ++ refused_line number → Prints goes_on 1 all start (longer ++ []) Refused
cut_off goes_on all start number lines state text longer more leads none grown =
    let prints_so : Prints true number [] state (refused_line number) Refused = (refl, refl) in
    let here : Prints goes_on number [] state (refused_line number) Refused = subst (λ b. Prints b number [] state (refused_line number) Refused) (sym more) prints_so in
    subst (λ t. Prints goes_on 1 all start t Refused) (sym grown ∙ sym (append-nil longer)) (leads (refused_line number) Refused (subst (λ ls. Prints goes_on number ls state (refused_line number) Refused) (sym none) here))

-- ---- a script past its limit: its front decides

long_of : (script : List ℕ) → most_script_octets < length script → is_too_long script ≡ true
long_of script long = grind (arith, nat_tests)

front_of : (script : List ℕ) → is_too_long script ≡ true → within_limit script ≡ to_last_feed (take most_script_octets script)
front_of script long = ap (λ b. if b then to_last_feed (take most_script_octets script) else script) long

-- what the octets print that were taken, to the end or past the limit, the whole script prints
pub of_whole : (schema : List SchemaNode) (limits : Limits) (octets more : List ℕ) (text : List ℕ) (ending : ScriptEnd) → (more ≡ []) ⊎ (length octets ≡ most_script_octets + 1) → RunsScript schema limits octets text ending → RunsScript schema limits (octets ++ more) text ending
unfolding RunsScript
of_whole schema limits octets more text ending (inl none) run = subst (λ m. RunsScript schema limits (octets ++ m) text ending) (sym none) (subst (λ o. RunsScript schema limits o text ending) (sym (append-nil octets)) run)
of_whole schema limits octets more text ending (inr over) run =
    let long : is_too_long octets ≡ true = long_of octets (omega (arith, over)) in
    let longer : is_too_long (octets ++ more) ≡ true = long_of (octets ++ more) (simp length-append (omega (arith, over))) in
    let within : most_script_octets ≤ length octets = omega (arith, over) in
    let same : take most_script_octets (octets ++ more) ≡ take most_script_octets octets = rw take-append-le in
    let lines : within_limit octets ≡ within_limit (octets ++ more) = front_of octets long ∙ ap to_last_feed (sym same) ∙ sym (front_of (octets ++ more) longer) in
    subst (λ s. Prints (is_too_long (octets ++ more)) 1 (lines_of s) (new_state schema limits) text ending) lines
    (subst (λ b. Prints b 1 (lines_of (within_limit octets)) (new_state schema limits) text ending) (long ∙ sym longer) run)
