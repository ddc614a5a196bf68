-- What other crates may build on: facts of lists, of keys and of passes. Beside them the crate of words uses the steps of the book inside
-- an atomic step (`Passes`, `Looks`, `Lives`, `Loans`, `Ways`, `Peeks`, `Tables`, `Notes`, `Renames`), and whoever walks code by hand what
-- tokens are (`Kit`, `Fields`, `Tuples`, `Sent`). All else in `proofs` is no interface, and may change.
-- lists of entries: an entry or a use more, a legal list's beginnings, and that its states are reached
pub use Rattle.seize_book.proofs.Lists.{after_push, after_used, as_legal, deeds_append, deeds_used, equal, legal_front, legal_push}
pub use Rattle.seize_book.proofs.Lists.{reached_after, unequal}
-- which block stands for a batch at a slot, as the list says it, and that it stays
pub use Rattle.seize_book.proofs.Plans.{AllLess, block_stays, blocks_stay, head_stays, legal_prefix, plan_stays, plans_append, plans_long}
pub use Rattle.seize_book.proofs.Plans.{saw_there, tried_there, waiting_there}
-- the first value of a batch that a slot's call holds
pub use Rattle.seize_book.proofs.Fronts.{added_held, front_grows, front_there, held_front, held_values, walked_held}
-- values that were named or reclaimed stay so, and an event that names some keeps the list sound
pub use Rattle.seize_book.proofs.Sound.{gone_later, has_last, named_later, new_named, no_labels, none_named, old_named, pushed, sound_push}
pub use Rattle.seize_book.proofs.Sound.{vacant_later}
-- counts lie in range, and their words follow them
pub use Rattle.seize_book.proofs.Counts.{any_near, batch_near, count_added, count_alone, count_near, count_subtracted, in_range, word_added}
pub use Rattle.seize_book.proofs.Counts.{word_subtracted, word_zero}
-- the values whose keys stand with a count
pub use Rattle.seize_book.proofs.Deposits.{deposit_added, deposit_subtracted}
-- fields lead through what waits and what is walked
pub use Rattle.seize_book.proofs.Chains.{fields_apart, unled, walking_there}
-- whose fields are whose: no two batches that are held share a block
pub use Rattle.seize_book.proofs.Serves.{AtAll, CallMarked, marked_after, serving_in, slots_in, walks_marked}
-- what a slot has stored in the fields of the block that it is about to insert
pub use Rattle.seize_book.proofs.Written.{plans_used, told_other, told_push}
-- an entry that touches one key alone, and what it leaves
pub use Rattle.seize_book.proofs.Private.{after_one, differ, makes_none, no_place, one_kept, one_within, only, only_is, same_kind}
-- how an event of a slot moves what its key knows
pub use Rattle.seize_book.proofs.Moves.{moves}
-- which number is free, and whether another one is in use, by which are in use;  of the numbers there is one key
pub use Rattle.seize_book.proofs.Gives.{free_by, others_by, the_only}
-- a number may be taken again
pub use Rattle.seize_book.proofs.Numbers.{may_take_by}
-- keys of blocks, and what they know later
pub use Rattle.seize_book.proofs.Values.{blocks_later, blocks_within, keys_later, labels_append, labels_later, none_of}
-- keys of one value, and what they know of its block
pub use Rattle.seize_book.proofs.Firsts.{noted_one, one_label, others_closed, others_know, own_is, unchanged_last, unchanged_value}
-- no values were never named
pub use Rattle.seize_book.proofs.Further.{none_new}
-- keys of several values, put together or apart
pub use Rattle.seize_book.proofs.Linked.{are_later, closed_after, parted_joined, still_closed}
-- and how they lead on
pub use Rattle.seize_book.proofs.Leading.{has_noted, last_closes, none_closed, one_leads}
-- what the list says is kept of values
pub use Rattle.seize_book.proofs.Kept.{alike_told, all_of_told, all_told_append, all_told_grow, all_told_later, all_told_renewed, both_told}
pub use Rattle.seize_book.proofs.Kept.{first_told, joined_told, pushed_told, put_told, retired_told, told_apart, told_later}
-- an entry that retires and puts nothing says all that it has to;  and a value that was retired or put is told what is kept of it
pub use Rattle.seize_book.proofs.Saying.{says_none}
pub use Rattle.seize_book.proofs.Telling.{told_if}
-- there is but one such word of a value
pub use Rattle.seize_book.proofs.Once.{told_once}
-- what is known of a value that a slot's call is about to hand, and when it was handed
pub use Rattle.seize_book.proofs.Hands.{hands_gone, hands_soon, settles_after, soon_named}
-- with a value that was named something is lent
pub use Rattle.seize_book.proofs.LentValues.{named_lent}
-- a value that was found in an activation which has not ended was not reclaimed
pub use Rattle.seize_book.proofs.Standing.{found_stands, gone_over}
-- of two beginnings one is the longer, and has seen what the other has
pub use Rattle.seize_book.proofs.Meets.{longer}
-- a pass that is the same twice over is the same
pub use Rattle.seize_book.proofs.Meets.{same_twice}
