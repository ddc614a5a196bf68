-- `withdraw` takes the loan from beside the key, which has no readers.
use Rattle.seize_book.proofs.CallKit.{ℕ, ◌≡◌, [], ◌∷◌, refl, subst, ‵, ◌⊛◌, some, given, later, await, heard, ◌$◌, !, move, split, split3, pick, learn, rewrite, use2, calls, told, pair2, Only, Both, keys, pass, Gv, Carries, with_label, label_of, after, Name, keys_own, pass_owns, start}
use Rattle.std.specs.Prelude.{false}
use Rattle.seize_machine.specs.Machine.State.{has}
use Rattle.seize_content.specs.Contents.{pool_owns, ticket_owns}
use Rattle.seize_content.specs.Stages.{lent}
use Rattle.seize_content.specs.contracts.loan.Pool as Pool
use Rattle.seize_content.specs.contracts.ticket.Ticket as Ticket
use Rattle.seize_book.specs.Private.{own_of}
use Rattle.seize_book.proofs.Lending.{withdraws}
use Rattle.seize_book.proofs.Renames.{fresh, fresh_home, renames_in}
use Rattle.seize_book.specs.contracts.book.keys.Keys.withdraw.{ended, clauses}
use Rattle.seize_book.specs.contracts.book.keys.Keys.withdraw.Key.{name as #self}
use Rattle.seize_book.proofs.book.keys.Keys.withdraw.Statement.{statement}
use Rattle.seize_book.proofs.book.keys.Keys.withdraw.Code as code

pub withdraw_spec : {M : Type 1} → statement M
withdraw_spec 𝓤 𝓛 𝓜 𝓡 wired =
    calls 𝓛 ended (keys 𝓛 0 tt, (pass 𝓛 1 tt 2 tt, tt)) (clauses 𝓛 𝓜.mem 𝓡.returns) _ (λ κs. Both 𝓛 (Only 𝓛 Ticket.the_row Ticket.the_heap (λ r. refl)) (Only 𝓛 Pool.the_row Pool.the_heap (λ r. refl))) 𝓜 𝓡 #self _ (code.unfolded 𝓤 𝓛.H 𝓜 𝓡 wired) (λ κs qs. refl) (λ κs a are. pair2 𝓛 (tt, ((tt, tt), ((tt, tt), tt))) (tt, (tt, tt)) (tt, (tt, tt)) (tt, tt) (tt, tt) (tt, tt)) (λ κs qs a are gh is end.
    let k = a.0.now in let p = a.1.0.now in let v : ℕ = label_of k.held in let w : ℕ = fresh k.name k.held in let same = fresh_home k.name k.held in
    move ! (2 ∷ 0 ∷ 1 ∷ []) $ heard ! _ (λ asked. rewrite ! 0 (λ (z : Name). ‵ (keys_own z k.held)) asked.0 refl $ move ! (1 ∷ 0 ∷ []) $
    let unnamed = subst (λ (n : Name). has v (after (start n) (own_of k.held)).named ≡ false) asked.0 asked.4 in
    use2 𝓛 (later (some (λ (t : ℕ × (ℕ × Gv)). given (Carries v t.0 t.1.1) (‵ (pass_owns p.name p.id p.seen) ⊛ ‵ (keys_own p.name (with_label w k.held)) ⊛ ‵ (ticket_owns t.0 (lent t.1.0 t.1.1)) ⊛ ‵ (pool_owns t.0 t.1.0 t.1.1)))))
    (withdraws 𝓛 p.name p.id p.seen k.held w asked.1 asked.2 unnamed asked.3 same.0 same.1 same.2 same.3 same.4) $ await ! tt $ pick ! (λ t. learn ! (λ carries. split ! $ move ! (1 ∷ []) $ split3 ! $
    -- [the keys'; the ticket; the pool; the pass's]
    move ! (0 ∷ 3 ∷ 1 ∷ 2 ∷ []) $
    end (record { marker = record {}; name = t.0; says = lent t.1.0 t.1.1 }, record { marker = record {}; name = t.0; life = t.1.0; value = t.1.1 }) (record k { name = p.name; held = with_label w k.held }, (p.seen, tt))
    (told 𝓤 (refl, (renames_in k.marker k.name p.name asked.0 k.held, (refl, refl), carries)))))))
