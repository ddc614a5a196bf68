-- That the wrong machines break the laws: each list is legal, and what breaks the law is found by computation.
use Rattle.std.proofs.Common.{ℕ, List, [], ◌∷◌, Option, Some, refl, inl, arith}
use Rattle.seize_machine.specs.Machine.State.{State, opening}
use Rattle.seize_machine.specs.Machine.Event.{Event}
use Rattle.seize_machine.specs.Machine.Next.{Transition}
use Rattle.seize_machine.specs.Machine.History.{Moment, at_size, history}
use Rattle.seize_machine.specs.Machine.Laws.{AtMostOnce, After, Quiet, Unused, Protection, Whereabouts, Gone, Holders, NoLaterHolders, UnderGuard, Tries, Breaks}
use Rattle.seize_machine.specs.Machine.Rows.{added_beside_active}
use Rattle.seize_machine.specs.Machine.Counterexamples.{nothing_given_up, retired_alone, given_up_unless_active, given_up_below_zero, counted_down_early, given_up_and_kept, counted_alone, handed_twice, given_up_and_forgotten, skipped_and_counted, skipped_and_added, one_value_more, retired_at_a_smaller_size, rest_passed_over, retired_beside_two, number_passed_over, read_last_alone, read_other_alone, given_up_when_full, found_and_retired, full_and_not_attempted, left_beside_another, fixed_note, made_before_put, retired_again, retired_twice, given_up_unretired, begun_alone, handed_alone, lost_at_any_time, lost_alone, left_in_the_link, found_after_its_retirement, taken_out, out_and_forgotten, another_stored, joined_at_entry, entered_after_add, left_after_add, kept_by_a_refresh, refreshed_after_add, ended_at_any_time, left_by_the_last, ended_by_its_batch, left_for_the_last, taken_without_the_rest, left_and_taken, taken_with_no_note, taken_at_a_smaller_size, recorded_in_front, handed_in_order}
use Rattle.seize_machine.proofs.Laws.Refuting.{not_once, not_after, not_before, not_just_once, not_protection, not_retired_since, not_quiet, not_unused, not_distinct, not_forgotten, not_unretired, not_lost, not_unnamed, not_gone, not_holders, not_listed, not_unparted, not_held, not_kept, not_tries}

abbrev start : List (Option ℕ) → State
start links = opening 0 links

abbrev moments : Transition → List (Option ℕ) → ℕ → List Event → List Moment
moments transition links size events = history transition (opening 0 links) (at_size size events)

pub nothing_given_up_breaks_quiet : Breaks nothing_given_up [] (at_size 1 retired_alone) Quiet
nothing_given_up_breaks_quiet = (refl, refl, not_quiet (start []) (moments nothing_given_up [] 1 retired_alone) 7 2 refl (_, refl, refl) refl 1 refl refl refl)

pub nothing_given_up_breaks_holders : Breaks nothing_given_up [] (at_size 1 retired_alone) Holders
nothing_given_up_breaks_holders = (refl, refl, not_holders (start []) (moments nothing_given_up [] 1 retired_alone) 0 7 (0, omega arith, refl) refl)

pub given_up_unless_active_breaks_holders : Breaks given_up_unless_active [] (at_size 1 added_beside_active) Holders
given_up_unless_active_breaks_holders = (refl, refl, not_holders (start []) (moments given_up_unless_active [] 1 added_beside_active) 0 7 (0, omega arith, refl) refl)

pub given_up_below_zero_breaks_after : Breaks given_up_below_zero [] (at_size 2 counted_down_early) After
given_up_below_zero_breaks_after = (refl, refl, not_after (start []) (moments given_up_below_zero [] 2 counted_down_early) 7 6 19 2 (_, refl, refl) (_, refl, refl) (_, refl, refl) refl)

pub retired_again_breaks_at_most_once : Breaks retired_again [] (at_size 2 handed_twice) AtMostOnce
retired_again_breaks_at_most_once = (refl, refl, not_once (start []) (moments retired_again [] 2 handed_twice) 7 9 10 (_, refl, refl) (_, refl, refl) refl)

pub given_up_and_kept_breaks_whereabouts : Breaks given_up_and_kept [] (at_size 1 counted_alone) Whereabouts
given_up_and_kept_breaks_whereabouts = (refl, refl, not_distinct (start []) (moments given_up_and_kept [] 1 counted_alone) refl)

pub given_up_and_forgotten_breaks_whereabouts : Breaks given_up_and_forgotten [] (at_size 1 retired_alone) Whereabouts
given_up_and_forgotten_breaks_whereabouts = (refl, refl, not_forgotten (start []) (moments given_up_and_forgotten [] 1 retired_alone) 7 2 (_, refl, refl) refl)

pub skipped_and_counted_breaks_quiet : Breaks skipped_and_counted [] (at_size 1 skipped_and_added) Quiet
skipped_and_counted_breaks_quiet = (refl, refl, not_quiet (start []) (moments skipped_and_counted [] 1 skipped_and_added) 7 4 refl (_, refl, refl) refl 1 refl refl refl)

pub one_value_more_breaks_quiet : Breaks one_value_more [] retired_at_a_smaller_size Quiet
one_value_more_breaks_quiet = (refl, refl, not_quiet (start []) (history one_value_more (start []) retired_at_a_smaller_size) 7 3 refl (_, refl, refl) refl 1 refl refl refl)

pub full_and_not_attempted_breaks_quiet : Breaks full_and_not_attempted [] (at_size 1 left_beside_another) Quiet
full_and_not_attempted_breaks_quiet = (refl, refl, not_quiet (start []) (moments full_and_not_attempted [] 1 left_beside_another) 7 3 refl (_, refl, refl) refl 1 refl refl refl)

pub rest_passed_over_breaks_after : Breaks rest_passed_over [] (at_size 1 retired_beside_two) After
rest_passed_over_breaks_after = (refl, refl, not_after (start []) (moments rest_passed_over [] 1 retired_beside_two) 7 6 15 2 (_, refl, refl) (_, refl, refl) (_, refl, refl) refl)

pub number_passed_over_breaks_after : Breaks number_passed_over [] (at_size 1 read_last_alone) After
number_passed_over_breaks_after = (refl, refl, not_after (start []) (moments number_passed_over [] 1 read_last_alone) 7 5 9 1 (_, refl, refl) (_, refl, refl) (_, refl, refl) refl)

pub number_passed_over_breaks_under_guard : Breaks number_passed_over [] (at_size 1 read_other_alone) UnderGuard
number_passed_over_breaks_under_guard = (refl, refl, not_kept (start []) (moments number_passed_over [] 1 read_other_alone) 7 0 _ refl refl refl refl)

pub given_up_when_full_breaks_protection : Breaks given_up_when_full (Some 7 ∷ []) (at_size 1 found_and_retired) Protection
given_up_when_full_breaks_protection = (refl, refl, not_protection (start (Some 7 ∷ [])) (moments given_up_when_full (Some 7 ∷ []) 1 found_and_retired) 1 7 4 8 (_, refl, refl, refl) (_, refl, refl) refl)

pub given_up_when_full_breaks_after : Breaks given_up_when_full (Some 7 ∷ []) (at_size 1 found_and_retired) After
given_up_when_full_breaks_after = (refl, refl, not_after (start (Some 7 ∷ [])) (moments given_up_when_full (Some 7 ∷ []) 1 found_and_retired) 7 7 8 1 (_, refl, refl) (_, refl, refl) (_, refl, refl) refl)

pub fixed_note_breaks_after : Breaks fixed_note [] (at_size 1 made_before_put) After
fixed_note_breaks_after = (refl, refl, not_after (start []) (moments fixed_note [] 1 made_before_put) 7 4 8 1 (_, refl, refl) (_, refl, refl) (_, refl, refl) refl)

pub retired_again_breaks_after : Breaks retired_again [] (at_size 2 retired_twice) After
retired_again_breaks_after = (refl, refl, not_just_once (start []) (moments retired_again [] 2 retired_twice) 7 9 2 5 (_, refl, refl) (_, refl, refl) (_, refl, refl) refl)

pub given_up_unretired_breaks_after : Breaks given_up_unretired [] (at_size 1 handed_alone) After
given_up_unretired_breaks_after = (refl, refl, not_before (start []) (moments given_up_unretired [] 1 handed_alone) 7 2 (_, refl, refl) refl)

pub given_up_unretired_breaks_whereabouts : Breaks given_up_unretired [] (at_size 1 begun_alone) Whereabouts
given_up_unretired_breaks_whereabouts = (refl, refl, not_unretired (start []) (moments given_up_unretired [] 1 begun_alone) 7 (0, omega arith, refl) refl)

pub lost_at_any_time_breaks_tries : Breaks lost_at_any_time [] (at_size 1 lost_alone) Tries
lost_at_any_time_breaks_tries = (refl, refl, not_tries (start []) (moments lost_at_any_time [] 1 lost_alone) 0 1 3 _ refl refl refl)

pub left_in_the_link_breaks_protection : Breaks left_in_the_link (Some 7 ∷ []) (at_size 1 found_after_its_retirement) Protection
left_in_the_link_breaks_protection =
    (refl, refl, not_retired_since (start (Some 7 ∷ [])) (moments left_in_the_link (Some 7 ∷ []) 1 found_after_its_retirement) 1 7 10 20 (_, refl, refl, refl) (_, refl, refl) refl)

pub left_in_the_link_breaks_whereabouts : Breaks left_in_the_link (Some 7 ∷ []) (at_size 1 taken_out) Whereabouts
left_in_the_link_breaks_whereabouts = (refl, refl, not_distinct (start (Some 7 ∷ [])) (moments left_in_the_link (Some 7 ∷ []) 1 taken_out) refl)

pub out_and_forgotten_breaks_whereabouts : Breaks out_and_forgotten (Some 7 ∷ []) (at_size 1 taken_out) Whereabouts
out_and_forgotten_breaks_whereabouts = (refl, refl, not_lost (start (Some 7 ∷ [])) (moments out_and_forgotten (Some 7 ∷ []) 1 taken_out) 7 (inl (0, omega arith, refl)) refl)

pub another_stored_breaks_whereabouts : Breaks another_stored (Some 7 ∷ []) (at_size 1 taken_out) Whereabouts
another_stored_breaks_whereabouts = (refl, refl, not_unnamed (start (Some 7 ∷ [])) (moments another_stored (Some 7 ∷ []) 1 taken_out) 9 (0, omega arith, refl) refl refl)

pub joined_at_entry_breaks_no_later_holders : Breaks joined_at_entry [] (at_size 1 entered_after_add) NoLaterHolders
joined_at_entry_breaks_no_later_holders = (refl, refl, not_listed (start []) (moments joined_at_entry [] 1 entered_after_add) 0 10 0 _ refl refl (0, omega arith, refl) refl)

pub joined_at_entry_walks : Breaks joined_at_entry [] (at_size 1 left_after_add) NoLaterHolders
joined_at_entry_walks = (refl, refl, not_held (start []) (moments joined_at_entry [] 1 left_after_add) 0 10 0 _ refl refl (0, omega arith, refl) refl refl)

pub kept_by_a_refresh_breaks_no_later_holders : Breaks kept_by_a_refresh [] (at_size 1 refreshed_after_add) NoLaterHolders
kept_by_a_refresh_breaks_no_later_holders =
    (refl, refl, not_unparted (start []) (moments kept_by_a_refresh [] 1 refreshed_after_add) 0 10 1 _ refl refl (0, omega arith, refl) (13, omega arith, omega arith, (_, refl, refl)))

pub recorded_in_front_breaks_gone : Breaks recorded_in_front [] (at_size 2 handed_in_order) Gone
recorded_in_front_breaks_gone = (refl, refl, not_gone (start []) (moments recorded_in_front [] 2 handed_in_order) refl)

pub ended_at_any_time_breaks_unused : Breaks ended_at_any_time [] (at_size 2 left_by_the_last) Unused
ended_at_any_time_breaks_unused = (refl, refl, not_unused (start []) (moments ended_at_any_time [] 2 left_by_the_last) 7 2 refl (_, refl, refl) refl)

pub ended_by_its_batch_breaks_unused : Breaks ended_by_its_batch [] (at_size 2 left_for_the_last) Unused
ended_by_its_batch_breaks_unused = (refl, refl, not_unused (start []) (moments ended_by_its_batch [] 2 left_for_the_last) 7 3 refl (_, refl, refl) refl)

pub taken_without_the_rest_breaks_whereabouts : Breaks taken_without_the_rest [] (at_size 2 left_and_taken) Whereabouts
taken_without_the_rest_breaks_whereabouts = (refl, refl, not_forgotten (start []) (moments taken_without_the_rest [] 2 left_and_taken) 7 3 (_, refl, refl) refl)

pub taken_with_no_note_breaks_after : Breaks taken_with_no_note [] taken_at_a_smaller_size After
taken_with_no_note_breaks_after = (refl, refl, not_after (start []) (history taken_with_no_note (start []) taken_at_a_smaller_size) 7 4 10 1 (_, refl, refl) (_, refl, refl) (_, refl, refl) refl)
