-- What is known of an activation that lasts, where no borrow of it is at hand.
--     IsOfActivation a pass l     l is of this activation, and knows what the pass had seen
--     LearnsFrom l pass pass'     the pass has seen the longer of what it had and l has, a legal list, which is what it had where it is
--                                 alone; and nothing was made with it
--     HasNotEnded a pass          the activation with lifetime a has not ended in what the pass has seen
use Rattle.std.specs.Prelude.{◌≡◌, ℕ}
use Rattle.seize_book.specs.Book.{IsLegalList}
use Rattle.seize_book.specs.Laws.{IsAmong, ended_lives}
use Rattle.seize_book.specs.Passes.{IsSamePass, Longer, MadeNone}
use Rattle.seize_book.specs.Tokens.{IsSole, start}
use Rattle.seize_book.specs.declared.book.pass.Pass.{Pass}
use Rattle.seize_words.specs.declared.activation.Activation.{Activation}
use Rattle.seize_words.specs.declared.lasting.Lasting.{Lasting}

abbrev pub IsOfActivation : Activation → Pass → Lasting → Type 0
IsOfActivation a pass l = (l.name ≡ pass.name) × (l.life ≡ a.life) × (l.seen ≡ pass.seen)

abbrev pub LearnsFrom : Lasting → Pass → Pass → Type 0
LearnsFrom l pass pass' =
    IsSamePass pass pass' × MadeNone pass pass' × Longer pass.seen l.seen pass'.seen × (IsSole pass.id → pass'.seen ≡ pass.seen)
    × IsLegalList (start pass.name) pass'.seen

abbrev pub HasNotEnded : ℕ → Pass → Type 0
HasNotEnded a pass = ¬ (IsAmong (ended_lives pass.seen) a)
