-- Lists of calls of a collector in one caller's hands. A block belongs where it lies in the collector's store, with each block inside it.
--     call_of call, reply_of reply     the model's call, and its reply, with values in the place of blocks
--     IsFor owners store links call     the link that the call names is one of so many, and the block that it brings belongs;
--                               AreFor owners store links calls     so it is for each of the calls
--     IsFrom owners store reply     the block that comes back belongs, where there is one;
--                               AreFrom owners store replies     so it is for each of the replies
--     DoesCall puts weight told call reply old new seen seen'     the call was replied to as the model does, with that state after it, and
--                               the watch was told of the values gone, in order; or it was refused memory for a number, and nothing changed
--     Ran puts weight told calls replies replies' old new seen seen'     so were all these calls, one after another: their replies follow
--                               those that were there before, and the watch was told of all values gone, in order
use Rattle.std.specs.Prelude.{◌≡◌, ◌⊎◌, ℕ, ◌<◌, true, List, [], ◌∷◌, ◌++◌, None, map, option_map, All, IfSome}
use Rattle.seize_model.specs.Waiting.Attempt.{StateAndGone}
use Rattle.seize_model.specs.Waiting.Lists.{Call, Register, EnterOwned, Enter, Leave, End, Refresh, Flush, Retire, Protect, Swap}
use Rattle.seize_model.specs.Waiting.Lists.{Reply, Done, Number, Kept, Found, Refused, Replied, step, takes_number}
use Rattle.seize_model.specs.Waiting.State.{ModelState}
use Rattle.seize_table.specs.declared.refusal.Refusal.TheVariants.{NoMemory}
use Rattle.seize_parts.specs.Blocks.{Belongs, content}
use Rattle.seize_parts.specs.Told.{told_of}
use Rattle.seize.specs.declared.alone.running.Call.{Call as CodeCall}
use Rattle.seize.specs.declared.alone.running.Call.TheVariants.{Register as CodeRegister, EnterOwned as CodeEnterOwned}
use Rattle.seize.specs.declared.alone.running.Call.TheVariants.{Enter as CodeEnter, Leave as CodeLeave, End as CodeEnd}
use Rattle.seize.specs.declared.alone.running.Call.TheVariants.{Refresh as CodeRefresh, Flush as CodeFlush, Retire as CodeRetire}
use Rattle.seize.specs.declared.alone.running.Call.TheVariants.{Protect as CodeProtect, Swap as CodeSwap}
use Rattle.seize.specs.declared.alone.running.Reply.{Reply as CodeReply}
use Rattle.seize.specs.declared.alone.running.Reply.TheVariants.{Done as CodeDone, Slot as CodeSlot, Kept as CodeKept}
use Rattle.seize.specs.declared.alone.running.Reply.TheVariants.{Found as CodeFound, Refused as CodeRefused}

abbrev pub call_of : {T : Type 0} → CodeCall T → Call T ℕ
call_of CodeRegister = Register
call_of CodeEnterOwned = EnterOwned
call_of (CodeEnter s) = Enter s
call_of (CodeLeave s) = Leave s
call_of (CodeEnd s) = End s
call_of (CodeRefresh s) = Refresh s
call_of (CodeFlush s) = Flush s
call_of (CodeRetire s owned kind) = Retire s (content owned) kind
call_of (CodeProtect s link) = Protect s link
call_of (CodeSwap s link new kind) = Swap s link (option_map content new) kind

abbrev pub reply_of : {T : Type 0} → CodeReply T → Reply T
reply_of CodeDone = Done
reply_of (CodeSlot n) = Number n
reply_of CodeKept = Kept
reply_of (CodeFound found) = Found found
reply_of (CodeRefused refusal back) = Refused refusal (option_map content back)

abbrev pub IsFor : {T : Type 0} → (T → List (List ℕ)) → List ℕ → ℕ → CodeCall T → Type 0
IsFor owners store links CodeRegister = Unit {0}
IsFor owners store links CodeEnterOwned = Unit {0}
IsFor owners store links (CodeEnter s) = Unit {0}
IsFor owners store links (CodeLeave s) = Unit {0}
IsFor owners store links (CodeEnd s) = Unit {0}
IsFor owners store links (CodeRefresh s) = Unit {0}
IsFor owners store links (CodeFlush s) = Unit {0}
IsFor owners store links (CodeRetire s owned kind) = Belongs owners store owned
IsFor owners store links (CodeProtect s link) = link < links
IsFor owners store links (CodeSwap s link new kind) = (link < links) × IfSome new (Belongs owners store)

abbrev pub AreFor : {T : Type 0} → (T → List (List ℕ)) → List ℕ → ℕ → List (CodeCall T) → Type 0
AreFor owners store links [] = Unit {0}
AreFor owners store links (call ∷ calls) = IsFor owners store links call × AreFor owners store links calls

abbrev pub IsFrom : {T : Type 0} → (T → List (List ℕ)) → List ℕ → CodeReply T → Type 0
IsFrom owners store CodeDone = Unit {0}
IsFrom owners store (CodeSlot n) = Unit {0}
IsFrom owners store CodeKept = Unit {0}
IsFrom owners store (CodeFound found) = Unit {0}
IsFrom owners store (CodeRefused refusal back) = IfSome back (Belongs owners store)

abbrev pub AreFrom : {T : Type 0} → (T → List (List ℕ)) → List ℕ → List (CodeReply T) → Type 0
AreFrom owners store replies = All (IsFrom owners store) replies

abbrev pub DoesCall : {T Seen : Type 0} → (ℕ → T → List T) → (T → ℕ) → (Seen → T → Seen) → CodeCall T → CodeReply T
    → ModelState T ℕ → ModelState T ℕ → Seen → Seen → Type 0
DoesCall puts weight told call reply old new seen seen' =
    let own = step puts weight old (call_of call) in
    ((reply_of reply ≡ own.0) × (new ≡ own.1.0) × (seen' ≡ told_of told seen own.1.1))
    ⊎ ((takes_number (call_of call) ≡ true) × (reply_of reply ≡ Refused NoMemory None) × (new ≡ old) × (seen' ≡ seen))

abbrev pub Ran : {T Seen : Type 0} → (ℕ → T → List T) → (T → ℕ) → (Seen → T → Seen) → List (CodeCall T) → List (CodeReply T)
    → List (CodeReply T) → ModelState T ℕ → ModelState T ℕ → Seen → Seen → Type 0
Ran {T} puts weight told calls replies replies' old new seen seen' =
    (added : List (CodeReply T)) × (o : StateAndGone T ℕ) × Replied puts weight old (map call_of calls) (map reply_of added) o
    × (replies' ≡ replies ++ added) × (new ≡ o.0) × (seen' ≡ told_of told seen o.1)
