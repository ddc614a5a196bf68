-- Worked runs, by groups of calls: for each the groups, and what is told of them under the same name with `_told`. A value is a
-- number, which its one reclaimer knows.
use Rattle.std.specs.Prelude.{ℕ, zero, suc, ◌-◌, ◌==◌, if◌then◌else◌, true, false, List, [], ◌∷◌, ◌++◌, Some, None, map, replicate}
use Rattle.std.specs.List.{flat_map, range_with_len}
use Rattle.seize_table.specs.declared.refusal.Refusal.TheVariants.{NotInUse, NotActive, WrongKind}
use Rattle.seize_model.specs.Waiting.State.{ModelState}
use Rattle.seize_model.specs.Waiting.Calls.{reclaim_all}
use Rattle.seize_model.specs.Waiting.Lists.{Call, Register, EnterOwned, Enter, Leave, End, Refresh, Flush, Retire, Protect, Swap, Reply, Done, Number, Kept, Found, Refused, run}

-- 12 puts 13 and 14, 13 puts 15, and 40 puts 41 to 50
abbrev pub puts : Unit {0} → ℕ → List ℕ
puts r v = if v == 12 then 13 ∷ 14 ∷ [] else (if v == 13 then 15 ∷ [] else (if v == 40 then range_with_len 41 10 else []))

abbrev pub weight : ℕ → ℕ
weight v = if v == 12 then 4 else (if v == 13 then 2 else (if v == 40 then 11 else 1))

-- calls made in one list, or a reclaim all
pub data Group : Type 0 where
  Calls : (calls : List (Call ℕ (Unit {0}))) → Group
  All : Group

-- the values gone in a group, in order, and the replies to its calls
abbrev pub Telling : Type 0
Telling = List ℕ × List (Reply ℕ)

abbrev pub tellings : ModelState ℕ (Unit {0}) → List Group → List Telling
tellings st [] = []
tellings st (Calls calls ∷ groups) =
    let r = run puts weight st calls in
    (map (λ v. v.0) r.1.1, r.0) ∷ tellings r.1.0 groups
tellings st (All ∷ groups) =
    let o = reclaim_all puts weight st in
    (map (λ v. v.0) o.1, []) ∷ tellings o.0 groups

-- the state after one list of calls
abbrev pub state_after : ModelState ℕ (Unit {0}) → List (Call ℕ (Unit {0})) → ModelState ℕ (Unit {0})
state_after st calls = (run puts weight st calls).1.0

-- slot s retires this value
abbrev pub gives : ℕ → ℕ → Call ℕ (Unit {0})
gives s v = Retire s v tt

-- this many replies of a call that was done
abbrev pub dones : ℕ → List (Reply ℕ)
dones n = replicate n Done

-- **Single.** The batch of one slot is retired at its second value, beside the slot's own guard, and is gone as that leaves.
abbrev pub single : List Group
single =
    Calls (Register ∷ Enter 0 ∷ gives 0 1 ∷ Leave 0 ∷ [])
    ∷ Calls (Enter 0 ∷ gives 0 2 ∷ []) ∷ Calls (Leave 0 ∷ []) ∷ []

abbrev pub single_told : List Telling
single_told =
    ([], Number 0 ∷ dones 3) ∷ ([], dones 2) ∷ (1 ∷ 2 ∷ [], dones 1) ∷ []

-- **Flushes.** 30 batches of one value each: the newest is gone first.
abbrev pub flushes : List Group
flushes =
    Calls (Register ∷ Enter 0 ∷ flat_map (λ v. gives 0 v ∷ Flush 0 ∷ []) (range_with_len 101 30)) ∷ Calls (Leave 0 ∷ []) ∷ []

-- n numbers from the first one downwards
abbrev pub downwards : ℕ → ℕ → List ℕ
downwards first zero = []
downwards first (suc n) = first ∷ downwards (first - 1) n

abbrev pub flushes_told : List Telling
flushes_told = ([], Number 0 ∷ dones 61) ∷ (downwards 130 30, dones 1) ∷ []

-- **Fives.** Six batches of five: the newest is gone first, and each in the order of its retirements.
abbrev pub fives : List Group
fives =
    Calls (Register ∷ Enter 0 ∷ map (gives 0) (range_with_len 101 30)) ∷ Calls (Leave 0 ∷ []) ∷ []

abbrev pub fives_told : List Telling
fives_told =
    ([], Number 0 ∷ dones 31)
    ∷ (flat_map (λ first. range_with_len first 5) (126 ∷ 121 ∷ 116 ∷ 111 ∷ 106 ∷ 101 ∷ []), dones 1) ∷ []

-- slot 0 enters three times, and slot 1 retires a batch of five beside it and leaves
abbrev pub beside_three : List (Call ℕ (Unit {0}))
beside_three =
    Register ∷ Register ∷ Enter 0 ∷ Enter 0 ∷ Enter 0 ∷ Enter 1 ∷ map (gives 1) (1 ∷ 2 ∷ 3 ∷ 4 ∷ 5 ∷ []) ++ Leave 1 ∷ []

abbrev pub beside_three_told : Telling
beside_three_told = ([], Number 0 ∷ Number 1 ∷ dones 10)

-- **Reentrant.** Only the last of three guards parts.
abbrev pub reentrant : List Group
reentrant =
    Calls beside_three ∷ Calls (Leave 0 ∷ []) ∷ Calls (Leave 0 ∷ []) ∷ Calls (Leave 0 ∷ []) ∷ []

abbrev pub reentrant_told : List Telling
reentrant_told =
    beside_three_told ∷ ([], dones 1) ∷ ([], dones 1) ∷ (1 ∷ 2 ∷ 3 ∷ 4 ∷ 5 ∷ [], dones 1) ∷ []

-- **Refreshing.** A refresh parts only where there is one guard.
abbrev pub refreshes : List Group
refreshes =
    Calls beside_three ∷ Calls (Refresh 0 ∷ Leave 0 ∷ []) ∷ Calls (Refresh 0 ∷ Leave 0 ∷ []) ∷ Calls (Refresh 0 ∷ []) ∷ []

abbrev pub refreshes_told : List Telling
refreshes_told =
    beside_three_told ∷ ([], dones 2) ∷ ([], dones 2) ∷ (1 ∷ 2 ∷ 3 ∷ 4 ∷ 5 ∷ [], dones 1) ∷ []

-- **Enough.** As many values as active slots are enough, and one less is not.
abbrev pub enough : List Group
enough =
    Calls (EnterOwned ∷ EnterOwned ∷ EnterOwned ∷ gives 0 1 ∷ Flush 0 ∷ gives 0 2 ∷ Flush 0 ∷ gives 0 3 ∷ [])
    ∷ Calls (Leave 0 ∷ Leave 1 ∷ []) ∷ Calls (Leave 2 ∷ []) ∷ []

abbrev pub enough_told : List Telling
enough_told =
    ([], Number 0 ∷ Number 1 ∷ Number 2 ∷ dones 5) ∷ ([], dones 2) ∷ (1 ∷ 2 ∷ 3 ∷ [], dones 1) ∷ []

-- the two values before the third stay in the batch
abbrev pub enough_before_third : List (Call ℕ (Unit {0}))
enough_before_third = EnterOwned ∷ EnterOwned ∷ EnterOwned ∷ gives 0 1 ∷ Flush 0 ∷ gives 0 2 ∷ Flush 0 ∷ []

-- **Nobody active.** With no slot active a full batch is gone in the retiring call, at size 0 as at size 1; a flush of an empty batch
-- does nothing.
abbrev pub nobody_active : List Group
nobody_active =
    Calls (Register ∷ gives 0 1 ∷ []) ∷ Calls (Enter 0 ∷ Flush 0 ∷ Leave 0 ∷ []) ∷ []

abbrev pub nobody_active_told : List Telling
nobody_active_told = (1 ∷ [], Number 0 ∷ dones 1) ∷ ([], dones 3) ∷ []

-- **Further.** 12 and 20 are gone, then 13 and 14, which 12 put; 15, which 13 put, stays in the batch until all is reclaimed.
abbrev pub further_in_batch : List (Call ℕ (Unit {0}))
further_in_batch = Register ∷ gives 0 12 ∷ gives 0 20 ∷ []

abbrev pub further_values : List Group
further_values = Calls (Register ∷ gives 0 12 ∷ []) ∷ Calls (gives 0 20 ∷ []) ∷ All ∷ []

abbrev pub further_values_told : List Telling
further_values_told =
    ([], Number 0 ∷ dones 1) ∷ (12 ∷ 20 ∷ 13 ∷ 14 ∷ [], dones 1) ∷ (15 ∷ [], []) ∷ []

-- **All.** First the batch that waited for slot 0, then the batches of the slots; then every number is free.
abbrev pub reclaims : List Group
reclaims =
    Calls (Register ∷ Register ∷ Enter 0 ∷ gives 0 4 ∷ gives 1 1 ∷ gives 1 2 ∷ gives 1 3 ∷ []) ∷ All ∷ Calls (Register ∷ []) ∷ []

abbrev pub reclaims_told : List Telling
reclaims_told =
    ([], Number 0 ∷ Number 1 ∷ dones 5) ∷ (1 ∷ 2 ∷ 4 ∷ 3 ∷ [], []) ∷ ([], Number 0 ∷ []) ∷ []

-- **All at any depth.** What further values put is reclaimed too.
abbrev pub deep_reclaims : List Group
deep_reclaims = Calls (Register ∷ gives 0 12 ∷ []) ∷ All ∷ []

abbrev pub deep_reclaims_told : List Telling
deep_reclaims_told = ([], Number 0 ∷ dones 1) ∷ (12 ∷ 13 ∷ 14 ∷ 15 ∷ [], []) ∷ []

-- **Many.** And all of it is, however much one value puts.
abbrev pub many : List Group
many = Calls (Register ∷ gives 0 40 ∷ []) ∷ All ∷ []

abbrev pub many_told : List Telling
many_told = ([], Number 0 ∷ dones 1) ∷ (range_with_len 40 11, []) ∷ []

-- **Crowd.** A batch that waits for five slots is gone as the last of them leaves.
abbrev pub crowd : List Group
crowd =
    Calls (replicate 5 EnterOwned ++ map (gives 0) (range_with_len 1 5) ++ map Leave (range_with_len 0 4)) ∷ Calls (Leave 4 ∷ []) ∷ []

abbrev pub crowd_told : List Telling
crowd_told = ([], map Number (range_with_len 0 5) ++ dones 9) ∷ (range_with_len 1 5, dones 1) ∷ []

-- **Reuse.** The least number that was given back is taken next, and a guard that was forgotten keeps its number.
abbrev pub reuse : List Group
reuse =
    Calls (Register ∷ EnterOwned ∷ Register ∷ Leave 1 ∷ Register ∷ Enter 2 ∷ End 2 ∷ Register ∷ []) ∷ []

abbrev pub reuse_told : List Telling
reuse_told = ([], Number 0 ∷ Number 1 ∷ Number 2 ∷ Done ∷ Number 1 ∷ Done ∷ Kept ∷ Number 3 ∷ []) ∷ []

-- **Forgotten.** The number of an owned guard that was forgotten stays in use until all is reclaimed.
abbrev pub forgotten_guard : List Group
forgotten_guard =
    Calls (EnterOwned ∷ Register ∷ End 1 ∷ Register ∷ End 1 ∷ []) ∷ All ∷ Calls (Register ∷ []) ∷ []

abbrev pub forgotten_guard_told : List Telling
forgotten_guard_told =
    ([], Number 0 ∷ Number 1 ∷ Done ∷ Number 1 ∷ Done ∷ []) ∷ ([], []) ∷ ([], Number 0 ∷ []) ∷ []

-- **Left behind.** What a slot retired under earlier guards stays in its batch, and goes with it, in order of retirement.
abbrev pub left_behind : List Group
left_behind =
    Calls (Register ∷ Register ∷ Enter 0 ∷ gives 0 1 ∷ Leave 0 ∷ Enter 0 ∷ gives 0 2 ∷ Leave 0 ∷ Enter 1 ∷ Enter 0 ∷ gives 0 3 ∷ Leave 1
    ∷ [])
    ∷ Calls (Leave 0 ∷ []) ∷ []

abbrev pub left_behind_told : List Telling
left_behind_told = ([], Number 0 ∷ Number 1 ∷ dones 10) ∷ (1 ∷ 2 ∷ 3 ∷ [], dones 1) ∷ []

-- **Left for the next.** The last slot in use ends, and its batch goes. So the next slot has none of it.
abbrev pub inherited_batch : List Group
inherited_batch =
    Calls (Register ∷ gives 0 1 ∷ End 0 ∷ []) ∷ Calls (EnterOwned ∷ gives 0 2 ∷ gives 0 3 ∷ []) ∷ Calls (Leave 0 ∷ []) ∷ []

abbrev pub inherited_batch_told : List Telling
inherited_batch_told = (1 ∷ [], Number 0 ∷ dones 2) ∷ ([], Number 0 ∷ dones 2) ∷ (2 ∷ 3 ∷ [], dones 1) ∷ []

-- **Rest.** What two slots left is handed as the last one ends, in the order in which they ended, and then its own batch; further values
-- in turn: 12 puts 13 and 14, and 13 puts 15.
abbrev pub rest_gathered : List Group
rest_gathered =
    Calls (Register ∷ Register ∷ EnterOwned ∷ gives 0 5 ∷ gives 1 12 ∷ gives 2 7 ∷ End 1 ∷ End 0 ∷ []) ∷ Calls (Leave 2 ∷ []) ∷ []

abbrev pub rest_gathered_told : List Telling
rest_gathered_told = ([], Number 0 ∷ Number 1 ∷ Number 2 ∷ dones 5) ∷ (12 ∷ 5 ∷ 7 ∷ 13 ∷ 14 ∷ 15 ∷ [], dones 1) ∷ []

-- **Taken.** Who takes a number takes what was left, and attempts it where it is enough.
abbrev pub rest_taken : List Group
rest_taken =
    Calls (Register ∷ Register ∷ Register ∷ gives 0 1 ∷ gives 1 2 ∷ gives 2 3 ∷ End 1 ∷ End 0 ∷ []) ∷ Calls (EnterOwned ∷ [])
    ∷ Calls (Leave 0 ∷ End 2 ∷ []) ∷ []

abbrev pub rest_taken_told : List Telling
rest_taken_told = ([], Number 0 ∷ Number 1 ∷ Number 2 ∷ dones 5) ∷ (2 ∷ 1 ∷ [], Number 0 ∷ []) ∷ (3 ∷ [], dones 2) ∷ []

-- **Refused.** A number not in use, a slot without a guard, an owned slot.
abbrev pub refusals : List Group
refusals =
    Calls (Leave 0 ∷ Register ∷ Leave 0 ∷ Flush 0 ∷ EnterOwned ∷ Enter 1 ∷ []) ∷ []

abbrev pub refusals_told : List Telling
refusals_told =
    ([], Refused NotInUse None ∷ Number 0 ∷ Refused NotActive None ∷ Refused NotActive None ∷ Number 1 ∷ Refused WrongKind None ∷ []) ∷ []

-- **Links.** A value that a link held is retired, and the value that it holds then is not.
abbrev pub link_runs : List Group
link_runs =
    Calls (Register ∷ Enter 0 ∷ Protect 0 0 ∷ Swap 0 0 (Some 1) tt ∷ Protect 0 0 ∷ Swap 0 0 (Some 2) tt ∷ [])
    ∷ Calls (Leave 0 ∷ []) ∷ All ∷ []

abbrev pub link_runs_told : List Telling
link_runs_told =
    ([], Number 0 ∷ Done ∷ Found false ∷ Done ∷ Found true ∷ Done ∷ []) ∷ (1 ∷ [], dones 1) ∷ ([], []) ∷ []
