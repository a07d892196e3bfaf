-- Words, and what is printed of answers.
use Rattle.std.proofs.Common.{◌≡◌, ℕ, List, [], ◌∷◌, ◌++◌, ap, codes, lit<, None, refl}
use Rattle.std.proofs.lemmas.Fmt.{decimal_digit}
use Rattle.grpc_client.specs.declared.fault.CallFault.TheVariants as faults
use Rattle.ask_command.specs.declared.ending.Ending.TheVariants as endings
use Rattle.ask_command.specs.Printing.{exit_status, notes_text, stamp_line, said_of_fault, said_of_text, saying}
use Rattle.ask_command.specs.Words.{Call, Get, form_words}

pub words_of_a_get : form_words (Call (codes "x") (Get (codes "/a"))) ≡
    codes "x" ∷ codes "get" ∷ codes "/a" ∷ []
words_of_a_get = refl

pub a_stamp : stamp_line 7 ≡ codes "ok 7\n"
a_stamp = ap (λ (d : List ℕ). codes "ok " ++ (d ++ 10 ∷ [])) (decimal_digit 7 (lit< tt))

-- a Notification without rows
pub a_state : notes_text (record { stamp = 7; deletes = []; updates = [] } ∷ []) ≡
    codes "state 7\n"
a_state = ap (λ (d : List ℕ). (codes "state " ++ (d ++ 10 ∷ [])) ++ []) (decimal_digit 7 (lit< tt))

pub a_refusal : said_of_fault (faults.Refused 9) ≡ saying (codes "refused 9\n") endings.Refused
a_refusal =
    ap (λ (d : List ℕ). saying (codes "refused " ++ (d ++ 10 ∷ [])) endings.Refused)
    (decimal_digit 9 (lit< tt))

pub its_status : exit_status endings.Refused ≡ 3
its_status = refl

pub no_reply : said_of_text None ≡ saying (codes "bad answer\n") endings.BadAnswer
no_reply = refl
