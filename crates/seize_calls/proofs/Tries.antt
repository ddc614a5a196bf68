-- One try of an insertion: what is stored before it, and where the call stands after it.
use Rattle.std.proofs.Common.{◌≡◌, ℕ, ◌+◌, Bool, true, false, if◌then◌else◌, List, [], ◌∷◌, ◌++◌, Option, Some, unwrap_or, refl, sym, ap, ◌∙◌}
use Rattle.seize_machine.specs.Machine.State.{Progress, Look, Place, Try}
use Rattle.seize_machine.specs.Machine.Event.{Event, Insert}
use Rattle.seize_machine.specs.Machine.History.{first_or_none}
use Rattle.seize_machine.specs.Machine.Next.{look, lost_on, won_on}
use Rattle.seize_machine.specs.declared.machine.event.Answer.{Answer}
use Rattle.seize_machine.specs.declared.machine.event.Answer.TheVariants.{Done}
use Rattle.seize_machine.specs.declared.machine.event.Try.TheVariants.{Won, Lost}
use Rattle.seize_book.specs.Adding.{private}
use Rattle.seize_book.specs.Blocks.{Plan, block_number, plan_value}
use Rattle.seize_book.specs.Chains.{first_field, next_field}
use Rattle.seize_book.specs.Entry.{Deed}
use Rattle.seize_words.specs.Headers.{IsFrontBlock, Stores, Uses, field_number}
use Rattle.seize_words.specs.Heads.{IsTrying}
use Rattle.seize_book.specs.Homes.{home_of}
use Rattle.seize_book.specs.Passes.{events_by}
use Rattle.seize_words.specs.Reservations.{TriesAt, slot}
use Rattle.seize_book.specs.Slots.{AddsEvent, IsKeyOfBook, own_list, slot_number, slot_of, start_of, written_of}
use Rattle.seize_book.specs.declared.book.pass.Pass.{Pass}
use Rattle.seize_book.specs.declared.book.slot_key.SlotKey.{SlotKey}
use Rattle.seize_words.specs.declared.chunk.Header.{Header}
use Rattle.seize_words.specs.declared.reservation.Head.{Head}
use Rattle.seize_words.proofs.Facts.{events_same, plan_kept, plan_used, still_trying}
use Rattle.seize_calls.specs.Inserts.{Continues, IsAtTry, TriesOnce, plan_in}
use Rattle.seize_calls.proofs.Keeps.{Goes, call_after, call_before, insert_lost, insert_won, keeps_book, keeps_noted, keeps_twice, keeps_used, made_noted, outcome, same_private, state_before, step_noted}

-- the front of a batch is the same where its plan is
abbrev pub front_same : (key key' : SlotKey) (b front : ℕ) → plan_in key' b ≡ plan_in key b → IsFrontBlock key b front → IsFrontBlock key' b front
front_same key key' b front same is = (is.0, ap (λ (p : Plan). first_or_none p.values) same ∙ is.1, is.2)

module _ (key : SlotKey) (pass : Pass) (head : Head) (header : Header) (seen block front : ℕ) (at : IsAtTry key head header seen block front) (book : IsKeyOfBook key pass) where
  abbrev t : IsTrying (start_of key) (slot_number key) (own_list key) (slot head) seen block
  t = at.tries

  abbrev m : ℕ
  m = slot head

  abbrev call : Progress
  call = record { place = Try t.batch t.won m t.later t.saw; queue = t.queue }

  stores : (which : ℕ → ℕ) (f : ℕ) → f ≡ which (home_of (plan_value m (plan_in key t.batch).slots (plan_in key t.batch).values)) → Stores which f key
  stores which f its = record { batch = t.batch; won = t.won; at = m; later = t.later; saw = t.saw; queue = t.queue; trying = t.trying; its = its }

  pub stores_next : Stores next_field (field_number header.next) key
  stores_next = stores next_field (field_number header.next) (header.its_next.1 ∙ ap next_field (sym at.its_home))

  pub stores_first : Stores first_field (field_number header.first) key
  stores_first = stores first_field (field_number header.first) (header.its_first.1 ∙ ap first_field (sym at.its_home))

  module _ (one two : SlotKey) (pass1 pass2 : Pass) (f g : ℕ) (first : Uses key pass one pass1 f seen) (second : Uses one pass1 two pass2 g front) where
    between : IsKeyOfBook one pass1
    between = keeps_book key one pass pass1 (keeps_used key one pass pass1 f seen first) book

    pub keeps_both : Continues key pass two pass2
    keeps_both = keeps_twice key one two pass pass1 pass2 (keeps_used key one pass pass1 f seen first) (keeps_used one two pass1 pass2 g front second)

    abbrev t1 : IsTrying (start_of one) (slot_number one) (own_list one) m seen block
    t1 = still_trying key one pass pass1 f seen first book m seen block t

    abbrev t2 : IsTrying (start_of two) (slot_number two) (own_list two) m seen block
    t2 = still_trying one two pass1 pass2 g front second between m seen block t1

    planned_one : plan_in one t.batch ≡ plan_in key t.batch
    planned_one = plan_used key one pass pass1 f seen first book t.batch at.its_front.0 at.its_front.1

    pub planned_both : plan_in two t.batch ≡ plan_in key t.batch
    planned_both = plan_used one two pass1 pass2 g front second between t.batch at.its_front.0 (front_same key one t.batch front planned_one at.its_front).1 ∙ planned_one

    pub tries_at : written_of two ≡ Some (seen, front) → TriesAt two head seen block
    tries_at written =
        let its = front_same key two t.batch front planned_both at.its_front in
        (t2, written ∙ ap (λ (k : ℕ). Some (seen, k)) (its.2 ∙ ap (λ (o : Option ℕ). block_number (unwrap_or o 0)) (sym its.1)), at.fits)

    made_none : events_by pass2 ≡ events_by pass
    made_none = events_same one two pass1 pass2 g front second ∙ events_same key one pass pass1 f seen first

    stands_two : (slot_of two).call ≡ Some call
    stands_two = t2.trying

    -- the insertion was tried
    module _ (key' : SlotKey) (pass' : Pass) where
      abbrev event : Bool → Event
      event won = Insert (slot_number two) m (if won then Won else Lost)

      abbrev on : Bool → Place → Place
      on won = if won then won_on else lost_on

      goes_so : (won : Bool) (notes : AddsEvent two pass2 key' pass' (event won)) → Goes (state_before two key' pass2 pass' (event won) [] notes) (slot_number two) call (on won) (outcome two key' pass2 pass' (event won) [] notes) Done
      goes_so true notes = insert_won _ _ (slot_number two) m call _ (step_noted two key' pass2 pass' (event true) [] notes) (call_before two key' pass2 pass' (event true) [] notes call stands_two)
      goes_so false notes = insert_lost _ _ (slot_number two) m call _ (step_noted two key' pass2 pass' (event false) [] notes) (call_before two key' pass2 pass' (event false) [] notes call stands_two)

      stands_so : (won : Bool) → (slot_of key').call ≡ Some (record { place = on won call.place; queue = call.queue })
          → (slot_of key').call ≡ Some (record { place = if won then look t.batch (t.won + 1) t.later else Look t.batch t.won m t.later; queue = t.queue })
      stands_so true is = is
      stands_so false is = is

      pub tried : (won : Bool) → AddsEvent two pass2 key' pass' (event won) → TriesOnce at pass key' pass' won
      tried won notes =
          let so = goes_so won notes in
          let keeps = keeps_noted two key' pass2 pass' (event won) [] notes call (on won) Done so refl in
          let e : ℕ → Event = λ s. Insert s m (if won then Won else Lost) in
          record {
            keeps = keeps_twice key two key' pass pass2 pass' keeps_both keeps;
            made =
                made_noted two key' pass2 pass' (event won) [] notes call (on won) Done so
                ∙ ap (λ (log : List (Deed × Answer)). log ++ (private pass2 (event won), Done) ∷ []) made_none
                ∙ ap (λ (d : Deed). events_by pass ++ (d, Done) ∷ []) (same_private pass pass2 keeps_both.on.same (event won))
                ∙ ap (λ (s : ℕ). events_by pass ++ (private pass (e s), Done) ∷ []) keeps_both.on.its.1;
            planned = plan_kept two key' pass2 pass' (private pass2 (event won)) t.batch at.its_front.0 notes (front_same key two t.batch front planned_both at.its_front).1 ∙ planned_both;
            stands = stands_so won (call_after two key' pass2 pass' (event won) [] notes call (on won) Done so);
          }
