-- `slots` gives what the book keeps of the table where its heads lie.
use Rattle.seize_book.proofs.CallKit.{List, [], ◌∷◌, refl, ‵, ◌⊛◌, some, given, later, await, ◌$◌, !, keep, split, pick, learn, use1, calls, told, token1, Only, pass, after, Entry, Before, pass_owns, start, looked, IsDistinct}
use Rattle.std.specs.Prelude.{length}
use Rattle.seize_table.specs.contracts.tls.all_filled.AllFilled as All
use Rattle.seize_book.specs.Tokens.{all_lie, slot_labels}
use Rattle.seize_book.proofs.Looks.{finds_slots}
use Rattle.seize_book.specs.contracts.book.pass.Pass.slots.{ended, clauses}
use Rattle.seize_book.specs.contracts.book.pass.Pass.slots.Key.{name as #self}
use Rattle.seize_book.proofs.book.pass.Pass.slots.Statement.{statement}
use Rattle.seize_book.proofs.book.pass.Pass.slots.Code as code

pub slots_spec : {M : Type 1} → statement M
slots_spec 𝓤 𝓛 𝓜 𝓡 wired =
    calls 𝓛 ended (pass 𝓛 0 tt 1 tt, tt) (clauses 𝓛 𝓜.mem 𝓡.returns) _ (λ κs. Only 𝓛 All.the_row All.the_heap (λ r. refl)) 𝓜 𝓡 #self _ (code.unfolded 𝓤 𝓛.H 𝓜 𝓡 wired) (λ κs qs. refl) (λ κs a are. token1 𝓛 (tt, (tt, tt)) (tt, tt) (tt, tt)) (λ κs qs a are gh is end.
    let b = a.0.now in keep ! (0 ∷ []) $ use1 𝓛 (later (some (λ (log : List Entry). given (Before b.name b.id b.seen [] log × IsDistinct 𝓛 b.name) (‵ (pass_owns b.name b.id log) ⊛ ‵ (all_lie b.name (length (after (start b.name) log).slots))))))
    (finds_slots 𝓛 b.name b.id b.seen) $ await ! tt $ pick ! (λ log. learn ! (λ so. split ! $
    end (record { marker = record {}; table = b.name.table; labels = slot_labels b.name (length (after (start b.name) log).slots) }) (log, tt) (told 𝓤 (looked b.name b.id b.seen log so.0 so.1, (refl, refl))))))
