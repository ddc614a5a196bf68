-- `again`: what shows it shows it twice.
use Rattle.seize_book.proofs.CallKit.{[], ◌∷◌, refl, ◌$◌, !, keep, calls, told, token1, Of, shown, beside, unit, ShrRef, marked_made, named, named_lft}
use Rattle.seize_words.specs.contracts.lasting.Lasting as Lasting
use Rattle.seize_words.specs.contracts.lasting.Lasting.again.{ended, clauses}
use Rattle.seize_words.specs.contracts.lasting.Lasting.again.Key.{name as #self}
use Rattle.seize_words.proofs.lasting.Lasting.again.Statement.{statement}
use Rattle.seize_words.proofs.lasting.Lasting.again.Code as code

pub again_spec : {M : Type 1} → statement M
again_spec 𝓤 𝓛 𝓜 𝓡 wired =
    calls 𝓛 ended (beside 𝓛 1 tt (shown 𝓛 0 tt (λ κs. Lasting.the_row (named_lft 2 1 tt κs)) (λ κs. Lasting.the_lent κs.1.0) (λ κs x. refl)), tt) (clauses 𝓛 𝓜.mem 𝓡.returns) _ (λ κs. Of 𝓛 (Lasting.the_row (named_lft 2 1 tt κs)) (marked_made (ShrRef (named 1) κs.1.0 unit) 𝓛) (Lasting.the_heap κs.1.0) (λ r. refl)) 𝓜 𝓡 #self _ (code.unfolded 𝓤 𝓛.H 𝓜 𝓡 wired) (λ κs qs. refl) (λ κs a are. token1 𝓛 (tt, (tt, tt)) (tt, tt) (tt, tt)) (λ κs qs a are gh is end.
    let l = a.0.now in keep ! (1 ∷ 0 ∷ []) $ end (record { marker = record {}; name = l.name; life = l.life; seen = l.seen }) (tt, tt) (told 𝓤 refl))
