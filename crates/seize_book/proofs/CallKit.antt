-- The names that the proofs of calls that run nothing cite, passed on.
pub use Rattle.seize_book.proofs.Kit.{ℕ, ◌≡◌, List, [], ◌∷◌, ◌++◌, refl, sym, subst, ‵, raw, ◌⊛◌, some, given, later, await, heard, ◌$◌, !, move, keep, drop, split, split3, fsplit, fjoin, fpick, pick, learn, rewrite, use0, use1, use2, use3, nothing, static_lft, yes}
pub use denote.Exit.{no}
pub use Rattle.seize_book.proofs.Calls.{calls, told}
pub use Rattle.seize_book.proofs.Idles.{unit1, unit2, unit3, unit4, token1, token2, token3, pair1, pair2, copied2, laid2, No, Only, Of, Laid, Both}
pub use Rattle.seize_book.proofs.Lent.{whole, held, keys, pass, adder, shown, taken, number, beside, along}
pub use Rattle.seize_book.specs.Tokens.{Name, keys_own, pass_owns, start, porter_owns}
pub use Rattle.seize_book.specs.Entry.{Entry}
pub use Rattle.seize_book.specs.Fair.{Before}
pub use Rattle.seize_book.proofs.Passes.{IsDistinct}
pub use Rattle.seize_book.specs.Ledger.{HeldKey}
pub use Rattle.seize_book.specs.Begin.{book_owns}
pub use Rattle.seize_book.specs.Loans.{Carries, loan_of}
pub use Rattle.seize_book.specs.Private.{label_of}
pub use Rattle.seize_book.specs.Book.{after, mine}
pub use Rattle.seize_book.specs.Others.{with_label}
pub use Rattle.seize_book.proofs.Looks.{looked}
pub use Rattle.seize_book.specs.Shared.{porter_has}
pub use Rattle.seize_book.specs.Permits.{all_permitted}
pub use base.Fml.{Lft, Share, flft, ftrue}
pub use base.Stored.{Gv}
pub use mir.Syntax.{named}
pub use denote.Signature.{named_lft}
pub use denote.Builtin.{unit}
pub use denote.Ref.{ShrRef}
pub use contract.Monad.{fact}
pub use base.Logic.{id⊢}
pub use Rattle.seize_content.proofs.Fields.{marked_made}
pub use Rattle.seize_book.proofs.Borrowed.{mark_made}
