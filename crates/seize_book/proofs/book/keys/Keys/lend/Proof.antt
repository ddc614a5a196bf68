-- `lend` lays the loan beside the key.
use Rattle.seize_book.proofs.CallKit.{ℕ, List, [], ◌∷◌, refl, sym, ‵, heard, ◌$◌, !, move, keep, fsplit, rewrite, use1, yes, calls, told, unit4, No, keys, taken, all_permitted, with_label, keys_own}
use Rattle.std.proofs.Common.{◌∙◌, sym}
use Rattle.seize_content.specs.Contents.{ticket_owns}
use Rattle.seize_content.specs.Stages.{Stage}
use Rattle.seize_content.specs.contracts.loan.Pool as Pool
use Rattle.seize_content.specs.contracts.ticket.Ticket as Ticket
use Rattle.seize_content.proofs.Tokens.{pool_tells, ticket_tells}
use Rattle.seize_book.specs.Lending.{MayLend}
use Rattle.seize_book.specs.contracts.book.permit.Permit as Permit
use types.Kit.{group}
use Rattle.seize_book.proofs.Lending.{lends_key}
use Rattle.seize_book.proofs.Renames.{fresh_lent, fresh_lent_is, lends}
use Rattle.seize_book.proofs.Fields.{permit_tells}
use Rattle.seize_book.specs.contracts.book.keys.Keys.lend.{ended, clauses}
use Rattle.seize_book.specs.contracts.book.keys.Keys.lend.Key.{name as #self}
use Rattle.seize_book.proofs.book.keys.Keys.lend.Statement.{statement}
use Rattle.seize_book.proofs.book.keys.Keys.lend.Code as code

pub lend_spec : {M : Type 1} → statement M
lend_spec 𝓤 𝓛 𝓜 𝓡 wired =
    calls 𝓛 ended (keys 𝓛 0 tt, (taken 𝓛 yes (λ κs. Ticket.the_row) (λ κs. Ticket.the_heap) (λ κs x. refl) (λ κs. ticket_tells) (λ κs x f. refl) (λ κs x. tt), (taken 𝓛 yes (λ κs. Pool.the_row) (λ κs. Pool.the_heap) (λ κs x. refl) (λ κs. pool_tells) (λ κs x f. refl) (λ κs x. tt), (taken 𝓛 yes (λ κs. Permit.the_row) (λ κs. Permit.the_heap) (λ κs x. refl) (λ κs. permit_tells) (λ κs x f. refl) (λ κs x. tt), tt)))) (clauses 𝓛 𝓜.mem 𝓡.returns) _ (λ κs. No 𝓛) 𝓜 𝓡 #self _ (code.unfolded 𝓤 𝓛.H 𝓜 𝓡 wired) (λ κs qs. refl) (λ κs a are. unit4 𝓛 (tt, tt) (tt, (tt, tt)) (tt, (tt, tt)) (tt, (tt, tt))) (λ κs qs a are gh is end.
    let k = a.0.now in let ticket = a.1.0 in let pool = a.1.1.0 in let permit = a.1.1.1.0 in let v : ℕ = fresh_lent k.name k.held pool.name pool.value in let is = fresh_lent_is k.name k.held pool.name pool.value in
    move ! (4 ∷ 3 ∷ []) $ heard ! (MayLend k ticket pool permit) (λ asked. rewrite ! 0 (λ (t : ℕ × List ℕ). ‵ (all_permitted t.0 t.1)) (λ j. (asked.4.0 j, asked.4.1 j)) refl $ fsplit ! $
    move ! (3 ∷ []) $ rewrite ! 0 (λ (m : ℕ). ‵ (ticket_owns m ticket.says)) asked.2.0 refl $ rewrite ! 0 (λ (u : Stage). ‵ (ticket_owns pool.name u)) asked.2.1 refl $
    -- [the ticket; the permit; no more; what the keys own; the pool]
    move ! (3 ∷ 0 ∷ 4 ∷ 1 ∷ []) $ group ! 4 $ use1 𝓛 (‵ (keys_own k.name (with_label v k.held))) (lends_key 𝓛 k.name k.held v pool.life pool.name pool.value asked.0 is.0 is.1 (asked.3 ∙ asked.2.0 ∙ sym is.2.0) is.2 is.3) $ keep ! (0 ∷ []) $
    end tt (record k { held = with_label v k.held }, (tt, (tt, (tt, tt)))) (told 𝓤 (lends k.marker k.name k.held pool))))
