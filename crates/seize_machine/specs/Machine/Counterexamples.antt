-- Wrong machines, each the right scheme with one of its choices changed, and for each a list of events, legal under it, on which
-- it breaks a law.
use Rattle.std.specs.Prelude.{ℕ, ◌+◌, ℤ, pos, negsuc, ◌+ℤ◌, Bool, true, false, not, ◌||◌, ◌&&◌, ◌==◌, if◌then◌else◌, nat_lt, nat_le, List, [], ◌∷◌, ◌++◌, map, length, slice_set, Some, None}
use Rattle.std.specs.List.{list_all}
use Rattle.seize_machine.specs.Machine.State.{Batch, Head, Inactive, Active, Place, Mark, Try, Rest, is_active, waiting_at}
use Rattle.seize_machine.specs.Machine.Event.{Event, Take, Give, Enter, Begin, Put, ReadHead, Detach, Insert, AddCount, SwapOut, SubCount, Hand, Return, ReadLink, ExchangeLink}
use Rattle.seize_machine.specs.Machine.Next.{Transition, next_by, scheme, taken_slot, is_empty, is_zero, all_if, look}
use Rattle.seize_machine.specs.Machine.History.{Timed, at_size}
use Rattle.seize_machine.specs.Machine.Rows.{up_to_detach, up_to_leave}
use Rattle.seize_machine.specs.declared.machine.event.Job.TheVariants.{Retire, Leave, Refresh}
use Rattle.seize_machine.specs.declared.machine.event.Try.TheVariants.{Won, Lost}
use Rattle.seize_machine.specs.declared.machine.event.Exchange.TheVariants.{Swap}

-- Wrong counts: what a batch gives up at a count, and what stays in it

-- **Nothing is given up.** A count of 0 gives nothing up.
abbrev pub nothing_given_up : Transition
nothing_given_up = next_by (record scheme { settled = λ st count values. ([], values) })

-- The only slot retires 7 with no slot active, and adds. At the end 7 is neither reclaimed nor in a slot's batch, and stands in a
-- retired batch that nothing holds.
abbrev pub counted_alone : List Event
counted_alone = Take 0 ∷ Begin 0 (Retire 7) ∷ Put 0 ∷ ReadHead 0 0 ∷ Detach 0 ∷ AddCount 0 ∷ []

abbrev pub retired_alone : List Event
retired_alone = counted_alone ++ Return 0 ∷ []

-- **Given up unless active.** A count of 0 gives up only where no slot at all is active. In the run `added_beside_active` slot 2
-- becomes active before slot 0 adds its insertion: the count is 0, the batch is not given up, and nothing holds it.
abbrev pub given_up_unless_active : Transition
given_up_unless_active =
    next_by (record scheme {
      settled = λ st count values. all_if (is_zero count && list_all (λ head. not (is_active head)) st.heads) values;
    })

-- whether a count is 0 or below
abbrev pub is_zero_or_below : ℤ → Bool
is_zero_or_below (pos n) = n == 0
is_zero_or_below (negsuc n) = true

-- **Given up below zero.** A count of 0 or below gives up.
abbrev pub given_up_below_zero : Transition
given_up_below_zero = next_by (record scheme { settled = λ st count values. all_if (is_zero_or_below count) values })

-- At size 2 slot 0 retires 7 and 8 while slots 1 and 2 are active, and slot 1 counts down before slot 0 adds its insertions. Slot 1
-- hands 7, and slot 2, which was active at its retirement, has not parted.
abbrev pub counted_down_early : List Event
counted_down_early =
    Take 0 ∷ Take 1 ∷ Take 2 ∷ Enter 1 ∷ Enter 2 ∷ Begin 0 (Retire 7) ∷ Put 0 ∷ Return 0
    ∷ Begin 0 (Retire 8) ∷ Put 0 ∷ ReadHead 0 0 ∷ ReadHead 0 1 ∷ ReadHead 0 2 ∷ Detach 0 ∷ ReadHead 0 1 ∷ Insert 0 1 Won
    ∷ Begin 1 Leave ∷ SwapOut 1 ∷ SubCount 1 ∷ Hand 1 [] ∷ []

-- **Given up and kept.** A count of 0 gives up, and the values stay in the batch too: after `counted_alone` 7 stands twice.
abbrev pub given_up_and_kept : Transition
given_up_and_kept = next_by (record scheme { settled = λ st count values. (if is_zero count then values else [], values) })

-- **Given up and forgotten.** A count of 0 empties the batch, and nobody gets its values: after `retired_alone` 7 stands nowhere.
abbrev pub given_up_and_forgotten : Transition
given_up_and_forgotten = next_by (record scheme { settled = λ st count values. ([], if is_zero count then [] else values) })

-- Wrong reads of heads

-- **Skipped and counted.** A skipped slot counts as an insertion won, so that the number of marked slots is added in place of
-- the number of insertions.
abbrev pub looked_and_counted : Head → ℕ → ℕ → ℕ → List ℕ → Place
looked_and_counted Inactive b won m later = look b (won + 1) later
looked_and_counted (Active waiting) b won m later = Try b won m later waiting

abbrev pub skipped_and_counted : Transition
skipped_and_counted = next_by (record scheme { looked = looked_and_counted })

-- Slot 1 leaves before slot 0 inserts, and slot 0 adds 1. At the end 7 is neither reclaimed nor in a slot's batch.
abbrev pub skipped_and_added : List Event
skipped_and_added = up_to_leave ++ ReadHead 0 1 ∷ AddCount 0 ∷ Return 0 ∷ []

-- **One value more.** An attempt asks for one value more than active slots.
abbrev pub marked_with_one_more : Bool → ℕ → ℕ → List ℕ → List ℕ → Place
marked_with_one_more active n note marks batch =
    if active
    then (if nat_lt (length marks + 1) (length batch) then Mark (n + 1) note (marks ++ n ∷ []) else Rest [] [])
    else Mark (n + 1) note marks

abbrev pub one_value_more : Transition
one_value_more = next_by (record scheme { marked = marked_with_one_more })

-- The only slot retires 7 at size 1 while it is active, and leaves; all else happens at size 3. At the end 7 is in a slot's batch of
-- one value, where the bound at size 1 is 1.
abbrev pub retired_at_a_smaller_size : List Timed
retired_at_a_smaller_size =
    at_size 3 (Take 0 ∷ Enter 0 ∷ Begin 0 (Retire 7) ∷ []) ++ at_size 1 (Put 0 ∷ [])
    ++ at_size 3 (ReadHead 0 0 ∷ Return 0 ∷ Begin 0 Leave ∷ SwapOut 0 ∷ Return 0 ∷ [])

-- **The rest passed over.** A batch with fewer values than active slots is inserted as far as it goes.
abbrev pub marked_as_far : Bool → ℕ → ℕ → List ℕ → List ℕ → Place
marked_as_far active n note marks batch =
    if active && nat_lt (length marks) (length batch) then Mark (n + 1) note (marks ++ n ∷ []) else Mark (n + 1) note marks

abbrev pub rest_passed_over : Transition
rest_passed_over = next_by (record scheme { marked = marked_as_far })

-- Slot 0 retires 7 while slots 1 and 2 are active, and slot 1 leaves. Slot 0 hands 7, and slot 2 has not parted.
abbrev pub retired_beside_two : List Event
retired_beside_two =
    Take 0 ∷ Take 1 ∷ Take 2 ∷ Enter 1 ∷ Enter 2 ∷ Begin 0 (Retire 7) ∷ Put 0 ∷ ReadHead 0 0 ∷ ReadHead 0 1 ∷ ReadHead 0 2 ∷ Detach 0
    ∷ Begin 1 Leave ∷ SwapOut 1 ∷ ReadHead 0 1 ∷ AddCount 0 ∷ Hand 0 [] ∷ []

-- **A number passed over.** Marking may pass over any number, also one below the note.
abbrev pub number_passed_over : Transition
number_passed_over = next_by (record scheme { may_read = λ next note n. nat_le next n })

-- Of three slots, slot 0 retires 7 while slot 1 is active, and reads the head of slot 2 alone. Slot 0 hands 7, and slot 1 has not
-- parted.
abbrev pub read_last_alone : List Event
read_last_alone =
    Take 0 ∷ Take 1 ∷ Take 2 ∷ Enter 1 ∷ Begin 0 (Retire 7) ∷ Put 0 ∷ ReadHead 0 2 ∷ Detach 0 ∷ AddCount 0 ∷ Hand 0 [] ∷ []

-- Slot 0 is active, retires 7 and reads the head of slot 1 alone, which is not active. Its count is 0, and 7 is given up to it.
abbrev pub read_other_alone : List Event
read_other_alone = Take 0 ∷ Take 1 ∷ Enter 0 ∷ Begin 0 (Retire 7) ∷ Put 0 ∷ ReadHead 0 1 ∷ Detach 0 ∷ AddCount 0 ∷ []

-- Wrong retirements

-- **Given up when full.** A full batch is given up at once, whichever slots are active.
abbrev pub given_up_when_full : Transition
given_up_when_full = next_by (record scheme { filled = λ slots batch. ([], Rest batch []) })

-- Slot 1 finds 7 in a link, and slot 0 takes it out, retires it and hands it. Slot 1, which was active at the retirement, has not
-- parted since it found 7.
abbrev pub found_and_retired : List Event
found_and_retired =
    Take 0 ∷ Take 1 ∷ Enter 0 ∷ Enter 1 ∷ ReadLink 1 0 ∷ ExchangeLink 0 0 (Swap None) ∷ Begin 0 (Retire 7) ∷ Put 0 ∷ Hand 0 [] ∷ []

-- **Full and not attempted.** A full batch stays, and is not attempted.
abbrev pub full_and_not_attempted : Transition
full_and_not_attempted = next_by (record scheme { filled = λ slots batch. (batch, Rest [] []) })

-- Slot 0 retires 7, 8, 9 and 10 and ends beside slot 1. At the end all four are in the rest, whose bound at size 1 is 2 times 2.
abbrev pub left_beside_another : List Event
left_beside_another =
    Take 0 ∷ Take 1 ∷ Begin 0 (Retire 7) ∷ Put 0 ∷ Return 0 ∷ Begin 0 (Retire 8) ∷ Put 0 ∷ Return 0
    ∷ Begin 0 (Retire 9) ∷ Put 0 ∷ Return 0 ∷ Begin 0 (Retire 10) ∷ Put 0 ∷ Return 0 ∷ Give 0 ∷ []

-- **A fixed note.** The note is 1, whatever the number of slots at the retirement. In the list below 1 was the number of slots
-- at the call's beginning.
abbrev pub fixed_note : Transition
fixed_note = next_by (record scheme { filled = λ slots batch. (batch, Mark 0 1 []) })

-- Slot 1 is made and becomes active after the call of slot 0 began and before it retires 7, and slot 0 does not read its head. Slot
-- 0 hands 7, and slot 1 has not parted.
abbrev pub made_before_put : List Event
made_before_put =
    Take 0 ∷ Begin 0 (Retire 7) ∷ Take 1 ∷ Enter 1 ∷ Put 0 ∷ ReadHead 0 0 ∷ Detach 0 ∷ AddCount 0 ∷ Hand 0 [] ∷ []

-- **Retired again.** A value may be retired that was retired before.
abbrev pub retired_again : Transition
retired_again = next_by (record scheme { may_retire = λ st v. true })

-- At size 2 the only slot retires 7 twice, and hands it, and hands it again.
abbrev pub retired_twice : List Event
retired_twice =
    Take 0 ∷ Begin 0 (Retire 7) ∷ Put 0 ∷ Return 0 ∷ Begin 0 (Retire 7) ∷ Put 0 ∷ ReadHead 0 0 ∷ Detach 0 ∷ AddCount 0 ∷ Hand 0 [] ∷ []

abbrev pub handed_twice : List Event
handed_twice = retired_twice ++ Hand 0 [] ∷ []

-- **Given up unretired.** The value is given up where its retirement should begin.
abbrev pub given_up_unretired : Transition
given_up_unretired = next_by (record scheme { retiring_at = λ v. Rest (v ∷ []) [] })

-- The only slot has 7 to hand, and 7 was never put in a batch.
abbrev pub begun_alone : List Event
begun_alone = Take 0 ∷ Begin 0 (Retire 7) ∷ []

abbrev pub handed_alone : List Event
handed_alone = begun_alone ++ Hand 0 [] ∷ []

-- Wrong ends and takes

-- **Ended at any time.** A slot ends with a batch though no other slot is in use.
abbrev pub ended_at_any_time : Transition
ended_at_any_time = next_by (record scheme { may_end = λ others batch rest. true })

-- At size 2 the only slot retires 7 and ends. No slot is in use, and 7 is not reclaimed.
abbrev pub left_by_the_last : List Event
left_by_the_last = Take 0 ∷ Begin 0 (Retire 7) ∷ Put 0 ∷ Return 0 ∷ Give 0 ∷ []

-- **Ended by its batch.** The last slot in use ends where its own batch is empty, whatever is left.
abbrev pub ended_by_its_batch : Transition
ended_by_its_batch = next_by (record scheme { may_end = λ others batch rest. others || is_empty batch })

-- At size 2 slot 0 retires 7 and ends beside slot 1, which ends too.
abbrev pub left_for_the_last : List Event
left_for_the_last = Take 0 ∷ Take 1 ∷ Begin 0 (Retire 7) ∷ Put 0 ∷ Return 0 ∷ Give 0 ∷ Give 1 ∷ []

-- **Taken without the rest.** A slot that takes a number has an empty batch, and what was left is nowhere.
abbrev pub taken_without_the_rest : Transition
taken_without_the_rest = next_by (record scheme { taken = λ size slots rest. taken_slot size slots [] })

-- At size 2 slot 0 retires 7 and ends beside slot 1, and its number is taken again.
abbrev pub left_and_taken : List Event
left_and_taken = Take 0 ∷ Take 1 ∷ Begin 0 (Retire 7) ∷ Put 0 ∷ Return 0 ∷ Give 0 ∷ Take 0 ∷ []

-- **Taken with no note.** The note of a call that begins with a take is 0.
abbrev pub taken_with_no_note : Transition
taken_with_no_note = next_by (record scheme { taken = λ size slots rest. taken_slot size 0 rest })

-- Slot 0 retires 7 at size 2 while slot 1 is active, and ends. Its number is taken again at size 1 and 7 is handed, and slot 1 has not
-- parted.
abbrev pub taken_at_a_smaller_size : List Timed
taken_at_a_smaller_size =
    at_size 2 (Take 0 ∷ Take 1 ∷ Enter 1 ∷ Begin 0 (Retire 7) ∷ Put 0 ∷ Return 0 ∷ Give 0 ∷ [])
    ++ at_size 1 (Take 0 ∷ Detach 0 ∷ AddCount 0 ∷ Hand 0 [] ∷ [])

-- A wrong insertion, a wrong link, a wrong entry, a wrong record

-- **Lost at any time.** An insertion may be lost though the head is what was read.
abbrev pub lost_at_any_time : Transition
lost_at_any_time = next_by (record scheme { may_lose = λ head saw. true })

-- Slot 0 reads the head of slot 1 and loses the insertion, and no event changed that head during the call.
abbrev pub lost_alone : List Event
lost_alone = up_to_detach ++ ReadHead 0 1 ∷ Insert 0 1 Lost ∷ []

-- **Left in the link.** A link that is exchanged holds what it held.
abbrev pub left_in_the_link : Transition
left_in_the_link = next_by (record scheme { stored = λ old new. old })

-- Slot 0 takes 7 out of a link, leaves and retires 7. Only then slot 1 enters and finds 7 there. It leaves and hands 7, and 7 was not
-- retired after it was found.
abbrev pub found_after_its_retirement : List Event
found_after_its_retirement =
    Take 0 ∷ Take 1 ∷ Enter 0 ∷ ExchangeLink 0 0 (Swap None) ∷ Begin 0 Leave ∷ SwapOut 0 ∷ Return 0 ∷ Begin 0 (Retire 7) ∷ Put 0
    ∷ Enter 1 ∷ ReadLink 1 0 ∷ ReadHead 0 0 ∷ ReadHead 0 1 ∷ Detach 0 ∷ ReadHead 0 1 ∷ Insert 0 1 Won ∷ AddCount 0
    ∷ Begin 1 Leave ∷ SwapOut 1 ∷ SubCount 1 ∷ Hand 1 [] ∷ []

-- Slot 0 takes 7 out of the only link. With `left_in_the_link` 7 is in the link and out of it.
abbrev pub taken_out : List Event
taken_out = Take 0 ∷ Enter 0 ∷ ExchangeLink 0 0 (Swap None) ∷ []

-- **Out and forgotten.** What comes out of a link is nowhere: after `taken_out` 7 was named and is in no place.
abbrev pub out_and_forgotten : Transition
out_and_forgotten = next_by (record scheme { let_out = λ loose held. loose })

-- **Another stored.** A link that is exchanged holds 9 in place of the value given. After `taken_out` 9 is in the link and was never
-- named.
abbrev pub another_stored : Transition
another_stored = next_by (record scheme { stored = λ old new. Some 9 })

-- the numbers of the batches that are not given up, counted from n, and the same batches with counts one higher
abbrev pub live_from : ℕ → List Batch → List ℕ
live_from n [] = []
live_from n (b ∷ bs) = if is_empty b.values then live_from (n + 1) bs else n ∷ live_from (n + 1) bs

abbrev pub raised : List Batch → List Batch
raised batches = map (λ b. if is_empty b.values then b else record { values = b.values; count = b.count +ℤ pos 1 }) batches

-- **Joined at entry.** A slot that becomes active joins the lists of all batches that are not given up.
abbrev pub joined_at_entry : Transition
joined_at_entry =
    next_by (record scheme {
      entered = λ st s. record st { heads = slice_set st.heads s (Active (live_from 0 st.batches)); batches = raised st.batches };
    })

-- Slot 0 inserts its batch at slot 1 and adds, and then becomes active: it lists the batch, which it did not after the add.
abbrev pub entered_after_add : List Event
entered_after_add = up_to_detach ++ ReadHead 0 1 ∷ Insert 0 1 Won ∷ AddCount 0 ∷ Return 0 ∷ Enter 0 ∷ []

-- Slot 0 leaves again, and is to walk the batch, which it neither listed nor walked after the add.
abbrev pub left_after_add : List Event
left_after_add = entered_after_add ++ Begin 0 Leave ∷ SwapOut 0 ∷ []

-- **Kept by a refresh.** A slot that refreshes keeps its list, and walks nothing.
abbrev pub refreshed_head : Head → Bool → Head × List ℕ
refreshed_head head true = (head, [])
refreshed_head head false = (Inactive, waiting_at head)

abbrev pub kept_by_a_refresh : Transition
kept_by_a_refresh = next_by (record scheme { left_by = refreshed_head })

-- Slot 1 lists the batch of slot 0 at its add, and refreshes: it lists the batch still.
abbrev pub refreshed_after_add : List Event
refreshed_after_add =
    up_to_detach ++ ReadHead 0 1 ∷ Insert 0 1 Won ∷ AddCount 0 ∷ Return 0 ∷ Begin 1 Refresh ∷ SwapOut 1 ∷ []

-- **Recorded in front.** The value reclaimed last stands first.
abbrev pub recorded_in_front : Transition
recorded_in_front = next_by (record scheme { recorded = λ gone v. v ∷ gone })

-- At size 2 the only slot retires 7 and 8 with no slot active, and hands both.
abbrev pub handed_in_order : List Event
handed_in_order =
    Take 0 ∷ Begin 0 (Retire 7) ∷ Put 0 ∷ Return 0 ∷ Begin 0 (Retire 8) ∷ Put 0 ∷ ReadHead 0 0 ∷ Detach 0 ∷ AddCount 0
    ∷ Hand 0 [] ∷ Hand 0 [] ∷ []
