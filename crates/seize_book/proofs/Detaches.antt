-- A slot's key is enough to detach its batch, and what is known of the batch then.
use Rattle.std.proofs.Common.{◌≡◌, ℕ, ◌+◌, pos, true, if◌then◌else◌, Bool, List, [], ◌∷◌, ◌++◌, length, get_or, Some, None, is_some, refl, sym, ap, ◌∙◌}
use Rattle.seize_machine.specs.Machine.State.{State, Slot, no_batch, slot_at, batch_at}
use Rattle.seize_machine.specs.Machine.Event.{Detach}
use Rattle.seize_machine.specs.Machine.Next.{next, can_detach, after_detach}
use Rattle.seize_machine.specs.declared.machine.event.Answer.{Answer}
use Rattle.seize_machine.specs.declared.machine.event.Answer.TheVariants.{Done}
use Rattle.seize_machine.proofs.Facts.{batches_length, some_is, step_of}
use Rattle.seize_book.specs.Batches.{CanDetach, Detaches}
use Rattle.seize_book.specs.Blocks.{Plan, no_plan, plan_of, plans}
use Rattle.seize_book.specs.Entry.{Entry}
use Rattle.seize_book.specs.Book.{IsLegalList, after}
use Rattle.seize_book.specs.Slots.{AddsEvent, slot_number, slot_of}
use Rattle.seize_book.specs.Tokens.{Name, start}
use Rattle.seize_book.specs.declared.book.pass.Pass.{Pass}
use Rattle.seize_book.specs.declared.book.slot_key.SlotKey.{SlotKey}
use Rattle.seize_book.proofs.Lists.{legal_front}
use Rattle.seize_book.proofs.Plans.{plans_append, plans_long}

-- what the machine makes of it
abbrev then_ : State → ℕ → State × Answer
then_ st s = (
  record st {
    slots = Rattle.std.specs.Prelude.slice_set st.slots s (after_detach (length st.batches) (slot_at st s));
    batches = st.batches ++ record { values = (slot_at st s).batch; count = pos 0 } ∷ [];
  },
  Done,
)

does : (size : ℕ) (st : State) (s : ℕ) → can_detach (slot_at st s) ≡ true → next size st (Detach s) ≡ Some (then_ st s)
does size st s can = ap (λ (b : Bool). if b then Some (then_ st s) else None) can

-- it is legal wherever the slot is as its key says
pub detaches_open : (size : ℕ) (slot : Slot) (st : State) (s : ℕ) → can_detach slot ≡ true → slot_at st s ≡ slot → is_some (next size st (Detach s)) ≡ true
detaches_open size slot st s can is = ap is_some (does size st s (ap can_detach is ∙ can))

last : {X : Type 0} (xs : List X) (x d : X) → get_or (xs ++ x ∷ []) (length xs) d ≡ x
last [] x d = refl
last (y ∷ xs) x d = last xs x d

-- the batch that it makes
new_batch : (size : ℕ) (st : State) (s : ℕ) (d : State × Answer) → can_detach (slot_at st s) ≡ true → next size st (Detach s) ≡ Some d
    → batch_at d.0 (length st.batches) ≡ record { values = (slot_at st s).batch; count = pos 0 }
new_batch size st s d can h =
    ap (λ (x : State × Answer). batch_at x.0 (length st.batches)) (some_is _ _ (sym h ∙ does size st s can)) ∙ last st.batches (record { values = (slot_at st s).batch; count = pos 0 }) no_batch

pub detaches : (key key' : SlotKey) (pass pass' : Pass) → key.keys.name ≡ pass.name → CanDetach key → AddsEvent key pass key' pass' (Detach (slot_number key)) → Detaches key pass'
detaches key key' pass pass' book can notes =
    let noted = notes.2.0 in let moves = notes.2.1 in let log : List Entry = noted.before in let s : ℕ = slot_number key in
    let st : State = after (start pass.name) log in let d : State × Answer = (noted.later, noted.answer) in
    let slot : slot_at st s ≡ slot_of key = sym (ap (λ (n : Name). slot_at (after (start n) log) s) book) ∙ moves.was in
    let leads : after (start key.keys.name) pass'.seen ≡ noted.later = ap (λ (n : Name). after (start n) pass'.seen) book ∙ noted.leads in
    let many : length (plans (start pass.name) log) ≡ length st.batches = plans_long pass.name log (legal_front (start pass.name) log _ (Rattle.std.proofs.Common.subst (IsLegalList (start pass.name)) noted.appended noted.legal)) in (
      length st.batches,
      sym (ap (λ (z : State). length z.batches) leads ∙ batches_length pass.size st (Detach s) d (step_of _ _ _ _ noted.does)),
      ap (λ (z : State). batch_at z (length st.batches)) leads ∙ new_batch pass.size st s d (ap can_detach slot ∙ can) noted.does ∙ ap (λ (z : Slot). record { values = z.batch; count = pos 0 }) slot,
      ap (λ (n : Name). get_or (plans (start n) pass'.seen) (length st.batches) no_plan) book
          ∙ ap (λ (l : List Entry). get_or (plans (start pass.name) l) (length st.batches) no_plan) noted.appended
          ∙ ap (λ (ps : List Plan). get_or ps (length st.batches) no_plan) (plans_append (start pass.name) log _)
          ∙ ap (λ (k : ℕ). get_or (plans (start pass.name) log ++ plan_of (slot_at st s) ∷ []) k no_plan) (sym many)
          ∙ last (plans (start pass.name) log) (plan_of (slot_at st s)) no_plan
          ∙ ap plan_of slot,
    )
