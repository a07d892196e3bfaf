-- How each call ends.
use Rattle.std.proofs.Common.{◌≡◌, ◌≢◌, ◌⊎◌, ℕ, List, ◌++◌, Bool, true, false, cond, refl, sym, ap, ◌∙◌, subst, inl, inr, Option, Some, None, Result, Ok, Err}
use Rattle.base_kinds.specs.declared.entry.Ask.{Ask}
use Rattle.base_kinds.specs.declared.entry.Entry.{Entry}
use Rattle.base_kinds.specs.declared.entry.View.{View}
use Rattle.base_kinds.specs.declared.path.Elem.{Elem}
use Rattle.base_kinds.specs.declared.refusal.Refusal.{Refusal}
use Rattle.base_kinds.specs.declared.refusal.Refusal.TheVariants as refusals
use Rattle.base_kinds.specs.Events.{view_of}
use Rattle.base_kinds.specs.History.{world_of, stamp_of}
use Rattle.base_kinds.specs.Schema.{SchemaNode}
use Rattle.book_port.specs.Follows.{Turn}
use Rattle.book_port.specs.Ports.{PortView, SetsOnce, LooksOnce}
use Rattle.gnmi_data_msg.specs.Writing.{number_field}
use Rattle.gnmi_get_msg.specs.Replies.{capabilities}
use Rattle.gnmi_kinds.specs.declared.ask.GetAsk.{GetAsk}
use Rattle.gnmi_set_msg.specs.Numbers.{reply_timestamp}
use Rattle.gnmi_set_msg.specs.declared.request.SetRequest.{SetRequest}
use Rattle.pb_message.specs.Fields.{is_message}
use Rattle.request_desk.specs.Answers.{IsSaid, Moves, IsAnsweredBy}
use Rattle.request_desk.specs.Gets.{asked_paths, reply_over, reply_at, read_task}
use Rattle.request_desk.specs.Services.{capabilities_task}
use Rattle.request_desk.specs.Sets.{request_task}
use Rattle.request_desk.specs.Tasks.{Task, Says}
use Rattle.request_desk.specs.inner.Gets.{get_ask}
use Rattle.request_desk.specs.inner.Sets.{set_ask, reply_front}
use Rattle.request_desk.proofs.GetAsks as get
use Rattle.request_desk.proofs.Parts.{same_reply}
use Rattle.request_desk.proofs.SetAsks.{is_change, ask_refused, reply_refused}
use Rattle.request_desk.proofs.Turns.{refused_alone, change_accepted, change_refused, look_refused, look_answered, look_not_answered}

-- ---- a Set

pub set_ask_refused : (schema : List SchemaNode) (read : Option SetRequest) (port : PortView) (now : ℕ) (refusal : Refusal)
    → (refusal ≢ refusals.NoMemory → set_ask schema read ≡ Err refusal) → IsAnsweredBy (request_task schema read) port now (Err refusal) port
set_ask_refused schema read port now refusal is =
    refused_alone (request_task schema read) port now refusal (λ other. ask_refused schema read refusal (is other))

pub set_reply_refused : (schema : List SchemaNode) (read : Option SetRequest) (port : PortView) (now : ℕ) (ask : Ask) (refusal : Refusal)
    → set_ask schema read ≡ Ok ask → (refusal ≢ refusals.NoMemory → reply_front read ≡ Err refusal)
    → IsAnsweredBy (request_task schema read) port now (Err refusal) port
set_reply_refused schema read port now ask refusal asked is =
    refused_alone (request_task schema read) port now refusal (λ other. reply_refused schema read ask refusal asked (is other))

pub set_accepted : (schema : List SchemaNode) (read : Option SetRequest) (old new : PortView) (now : ℕ) (ask : Ask) (front octets : List ℕ) (stamp : ℕ)
    → set_ask schema read ≡ Ok ask → reply_front read ≡ Ok front → octets ≡ front ++ number_field reply_timestamp stamp
    → SetsOnce old now ask (Ok stamp) new → IsAnsweredBy (request_task schema read) old now (Ok octets) new
set_accepted schema read old new now ask front octets stamp asked fits written set =
    let change = is_change schema read ask front asked fits in
    subst (λ (t : Task). IsAnsweredBy t old now (Ok octets) new) (sym change.task)
    (change_accepted old new now ask change.reply stamp octets (written ∙ change.written stamp) set)

pub set_refused : (schema : List SchemaNode) (read : Option SetRequest) (old new : PortView) (now : ℕ) (ask : Ask) (front : List ℕ) (refusal : Refusal)
    → set_ask schema read ≡ Ok ask → reply_front read ≡ Ok front
    → SetsOnce old now ask (Err refusal) new → IsAnsweredBy (request_task schema read) old now (Err refusal) new
set_refused schema read old new now ask front refusal asked fits set =
    let change = is_change schema read ask front asked fits in
    subst (λ (t : Task). IsAnsweredBy t old now (Err refusal) new) (sym change.task)
    (change_refused old new now ask change.reply refusal set)

-- ---- a Get

pub get_ask_refused : (schema : List SchemaNode) (read : Option GetAsk) (port : PortView) (now : ℕ) (refusal : Refusal)
    → (refusal ≢ refusals.NoMemory → get_ask read ≡ Err refusal) → IsAnsweredBy (read_task schema read) port now (Err refusal) port
get_ask_refused schema read port now refusal is =
    refused_alone (read_task schema read) port now refusal (λ other. get.ask_refused schema read refusal (is other))

pub get_paths_refused : (schema : List SchemaNode) (read : Option GetAsk) (port : PortView) (now : ℕ) (ask : GetAsk) (refusal : Refusal)
    → get_ask read ≡ Ok ask → (refusal ≢ refusals.NoMemory → asked_paths ask ≡ Err refusal)
    → IsAnsweredBy (read_task schema read) port now (Err refusal) port
get_paths_refused schema read port now ask refusal asked is =
    refused_alone (read_task schema read) port now refusal (λ other. get.paths_refused schema read ask refusal asked (is other))

pub get_look_refused : (schema : List SchemaNode) (read : Option GetAsk) (old new : PortView) (now : ℕ) (ask : GetAsk) (paths : List (List Elem)) (refusal : Refusal)
    → get_ask read ≡ Ok ask → asked_paths ask ≡ Ok paths → LooksOnce old now paths (Err refusal) new
    → IsAnsweredBy (read_task schema read) old now (Err refusal) new
get_look_refused schema read old new now ask paths refusal asked given look =
    subst (λ (t : Task). IsAnsweredBy t old now (Err refusal) new) (sym (get.looks schema read ask paths asked given))
    (look_refused old new now paths (reply_at schema ask paths) refusal look)

-- what the view gives is the reply at each history of which it is the view
gives : (schema : List SchemaNode) (ask : GetAsk) (paths : List (List Elem)) (view : View) (result : Result (List ℕ) Refusal)
    → reply_over schema ask paths view.stamp view.rows ≡ result
    → (h : List Entry) → view ≡ view_of h paths → reply_at schema ask paths h ≡ result
gives schema ask paths view result is h seen =
    sym (same_reply schema ask paths (stamp_of h) (world_of h).tree)
    ∙ ap (λ (v : View). reply_over schema ask paths v.stamp v.rows) (sym seen) ∙ is

pub get_answered : (schema : List SchemaNode) (read : Option GetAsk) (old new : PortView) (now : ℕ) (ask : GetAsk) (paths : List (List Elem)) (view : View) (octets : List ℕ)
    → get_ask read ≡ Ok ask → asked_paths ask ≡ Ok paths → LooksOnce old now paths (Ok view) new
    → reply_over schema ask paths view.stamp view.rows ≡ Ok octets → IsAnsweredBy (read_task schema read) old now (Ok octets) new
get_answered schema read old new now ask paths view octets asked given look is =
    subst (λ (t : Task). IsAnsweredBy t old now (Ok octets) new) (sym (get.looks schema read ask paths asked given))
    (look_answered old new now paths (reply_at schema ask paths) view octets look (gives schema ask paths view (Ok octets) is))

no_fault : (refusal : Refusal) → (refusal ≡ refusals.NotFound) ⊎ ((refusal ≡ refusals.TooLarge) ⊎ (refusal ≡ refusals.NoMemory)) → refusal ≢ refusals.DiskFault
no_fault refusal (inl is) fault = cc
no_fault refusal (inr (inl is)) fault = cc
no_fault refusal (inr (inr is)) fault = cc

pub get_not_answered : (schema : List SchemaNode) (read : Option GetAsk) (old new : PortView) (now : ℕ) (ask : GetAsk) (paths : List (List Elem)) (view : View) (refusal : Refusal)
    → get_ask read ≡ Ok ask → asked_paths ask ≡ Ok paths → LooksOnce old now paths (Ok view) new
    → (refusal ≡ refusals.NotFound) ⊎ ((refusal ≡ refusals.TooLarge) ⊎ (refusal ≡ refusals.NoMemory))
    → (refusal ≢ refusals.NoMemory → reply_over schema ask paths view.stamp view.rows ≡ Err refusal)
    → IsAnsweredBy (read_task schema read) old now (Err refusal) new
get_not_answered schema read old new now ask paths view refusal asked given look cause is =
    subst (λ (t : Task). IsAnsweredBy t old now (Err refusal) new) (sym (get.looks schema read ask paths asked given))
    (look_not_answered old new now paths (reply_at schema ask paths) view refusal look (no_fault refusal cause)
    (λ other. gives schema ask paths view (Err refusal) (is other)))

-- ---- without a turn

pub starved : (task : Task) (port : PortView) (now : ℕ) → IsAnsweredBy task port now (Err refusals.NoMemory) port
starved task port now = refused_alone task port now refusals.NoMemory (λ other. absurd (other refl))

pub said : (task : Task) (port : PortView) (now : ℕ) (answer : Result (List ℕ) Refusal) → task ≡ Says answer → IsAnsweredBy task port now answer port
said task port now answer is = record { turn = None; answers = inl (subst (λ (t : Task). IsSaid t answer) (sym is) refl); moves = refl }

pub no_message : (schema : List SchemaNode) (octets : List ℕ) (port : PortView) (now : ℕ) → is_message octets ≡ false
    → IsAnsweredBy (capabilities_task schema octets) port now (Err refusals.BadMessage) port
no_message schema octets port now is =
    said (capabilities_task schema octets) port now (Err refusals.BadMessage)
    (ap (λ (b : Bool). cond b (Says (Ok (capabilities schema))) (Says (Err refusals.BadMessage))) is)

pub capable : (schema : List SchemaNode) (octets reply : List ℕ) (port : PortView) (now : ℕ) → is_message octets ≡ true → reply ≡ capabilities schema
    → IsAnsweredBy (capabilities_task schema octets) port now (Ok reply) port
capable schema octets reply port now is written =
    said (capabilities_task schema octets) port now (Ok reply)
    (ap (λ (b : Bool). cond b (Says (Ok (capabilities schema))) (Says (Err refusals.BadMessage))) is ∙ ap (λ (r : List ℕ). Says (Ok r)) (sym written))

-- ---- what the port was opened with stays

moved_on : (old new : PortView) (now : ℕ) (turn : Option Turn) (result : Result (List ℕ) Refusal) → Moves old now turn result new → new.opened ≡ old.opened
moved_on old new now None result moves = ap (λ (port : PortView). port.opened) moves
moved_on old new now (Some turn) result moves = ap (λ (port : PortView). port.opened) moves.1.new_is

pub still_opened : (task : Task) (old new : PortView) (now : ℕ) (result : Result (List ℕ) Refusal) → IsAnsweredBy task old now result new → new.opened ≡ old.opened
still_opened task old new now result answered = moved_on old new now answered.turn result answered.moves
