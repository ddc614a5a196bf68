-- `of_sight`: a sight says how long what it shows lasts.
use Rattle.seize_book.proofs.CallKit.{[], ◌∷◌, refl, ◌$◌, !, move, keep, fsplit, fjoin, no, calls, told, token2, Of, shown, taken, beside, unit, ShrRef, marked_made, named, named_lft}
use Rattle.seize_content.specs.contracts.loan.Sight as Sight
use Rattle.seize_book.specs.contracts.book.seen.Seen as Seen
use Rattle.seize_words.specs.contracts.lasting.Lasting as Lasting
use Rattle.seize_content.proofs.Tokens.{sight_tells}
use Rattle.seize_words.specs.contracts.lasting.Lasting.of_sight.{ended, clauses}
use Rattle.seize_words.specs.contracts.lasting.Lasting.of_sight.Key.{name as #self}
use Rattle.seize_words.proofs.lasting.Lasting.of_sight.Statement.{statement}
use Rattle.seize_words.proofs.lasting.Lasting.of_sight.Code as code

pub of_sight_spec : {M : Type 1} → statement M
of_sight_spec 𝓤 𝓛 𝓜 𝓡 wired =
    calls 𝓛 ended (beside 𝓛 0 tt (taken 𝓛 no (λ κs. Sight.the_row (named_lft 2 0 tt κs)) (λ κs. Sight.the_heap κs.0) (λ κs x. refl) (λ κs. sight_tells (named_lft 2 0 tt κs)) (λ κs x f. refl) (λ κs x. tt)), (shown 𝓛 1 tt (λ κs. Seen.the_row) (λ κs. Seen.the_lent) (λ κs x. refl), tt)) (clauses 𝓛 𝓜.mem 𝓡.returns) _ (λ κs. Of 𝓛 (Lasting.the_row (named_lft 2 0 tt κs)) (marked_made (ShrRef (named 0) κs.0 unit) 𝓛) (Lasting.the_heap κs.0) (λ r. refl)) 𝓜 𝓡 #self _ (code.unfolded 𝓤 𝓛.H 𝓜 𝓡 wired) (λ κs qs. refl) (λ κs a are. token2 𝓛 (tt, (tt, tt)) (tt, tt) (tt, (tt, tt)) (tt, tt)) (λ κs qs a are gh is end.
    let d = a.0 in let b = a.1.0.now in fsplit ! $ move ! (0 ∷ 2 ∷ []) $ fjoin ! $ keep ! (2 ∷ 0 ∷ []) $
    end (record { marker = record {}; name = b.name; life = d.life; seen = b.seen }) (tt, (tt, tt)) (told 𝓤 refl))
