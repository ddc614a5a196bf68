-- What was had with nothing put, and what was had before and after.
--     had_with, put_nothing     what was had are these values where it is said so without what was put;  and then nothing was put
--     had_append                what was had before and after
use Rattle.std.proofs.Common.{ℕ, List, [], ◌∷◌, ◌++◌, refl}
use base.Stored.{Gv}
use Rattle.seize_calls.specs.Aparts.{without_puts}
use Rattle.seize_calls.specs.Handing.{Had}
use Rattle.seize_alone.specs.Gone.{HadAre, PutAs}
use Rattle.seize_alone.proofs.Ready.{nothing}

module _ {T : Type 0} (code : T → Gv) where
  pub had_with : (had : Had) (gone : List (T × ℕ)) → HadAre code (without_puts had) gone → HadAre code had gone
  had_with [] [] are = tt
  had_with [] (v ∷ gone) are = absurd are
  had_with (one ∷ had) [] are = absurd are
  had_with (one ∷ had) (v ∷ gone) are = (are.0, had_with had gone are.1)

  pub put_nothing : (puts : ℕ → T → List T) (had : Had) → PutAs code puts had → PutAs code nothing (without_puts had)
  put_nothing puts [] put = tt
  put_nothing puts (one ∷ had) put = ((put.0.0, put.0.1, tt, refl), put_nothing puts had put.1)

  pub had_append : (had had' : Had) (gone gone' : List (T × ℕ)) → HadAre code had gone → HadAre code had' gone' → HadAre code (had ++ had') (gone ++ gone')
  had_append [] had' [] gone' are are' = are'
  had_append [] had' (v ∷ gone) gone' are are' = absurd are
  had_append (one ∷ had) had' [] gone' are are' = absurd are
  had_append (one ∷ had) had' (v ∷ gone) gone' are are' = (are.0, had_append had had' gone gone' are.1 are')
