-- A book begins with its gate shut: its first pass is alone.
use Rattle.seize_book.proofs.Kit.{static_lft, ◌≡◌, ℕ, [], ◌∷◌, refl, w64, proved, Val, vint, SProp, emp, ftrue, ‵, raw, ◌⊛◌, some, given, later, await, ◌$◌, ◌∵◌, !, qed, by, move, keep, split, split3, fsplit, fjoin, pick, learn, use0, use1, of_opd, no_more, and_then, returns, enter, alloc_all, pass_all, free_all, look_at, get, sets, agg, fact_i, tables, yes, RattleType, owns, types_at, plain, uint_vals, uint_Tells, nothing, Stays, stay_dropped, walk_of, Goes-dropped, List, Fml, fsep, flft}
use mir.Syntax.{a_type, dcons, dnil}
use mir.MapTy.{inst_fn}
use denote.Param.{bounded}
use denote.Builtin.{usize}
use denote.Struct.Tuple.{Tuple}
use Rattle.seize_book.proofs.Borrowed.{Mark, mark_made}
use Rattle.seize_book.specs.Tokens.{Name, keys_own, pass_holds}
use Rattle.seize_book.specs.Begin.{BeganWith, book_owns, first_keys}
use Rattle.seize_book.specs.contracts.book.keys.Keys as Keys
use Rattle.seize_book.specs.contracts.book.pass.Pass as Pass
use Rattle.seize_book.specs.contracts.book.seen.Seen as Seen
use Rattle.seize_book.specs.contracts.book.sizes.Sizes as Sizes
use Rattle.seize_book.specs.Bounds.{first_sizes}
use types.Kit.{group}
use Rattle.seize_book.specs.contracts.book.future_book.FutureBook as FutureBook
use Rattle.seize_book.proofs.Begins.{begins}
use Rattle.seize_book.proofs.Books.{book_twice}
use Rattle.seize_book.proofs.Fields.{Token, token, token_made, no_bytes, unopened_tells, ends}
use Rattle.seize_book.proofs.Tuples.{quad_val, quad_of}
use Rattle.seize_book.specs.contracts.book.seen.Seen.open.{ended, clauses}
use Rattle.seize_book.specs.contracts.book.seen.Seen.open.Key.{name as #self}
use Rattle.seize_book.proofs.book.seen.Seen.open.Statement.{statement}
use Rattle.seize_book.proofs.book.seen.Seen.open.Code as code

pub open_spec : {M : Type 1} → statement M
open_spec 𝓤 𝓛 𝓜 𝓡 wired P LP g d _ =
    let H = 𝓛.H in let 𝓣 = tables 𝓤 H 𝓜 𝓡 𝓡.env in let En = ended P g d in let c = clauses P g d 𝓛 𝓜.mem 𝓡.returns in
    let inst = bounded (a_type ∷ []) (P, tt) (dcons d dnil) in let fn = inst_fn inst code.function in let store : List ℕ = g.store in let table : List ℕ = g.table in let permits : ℕ = g.permits in let pairs : ℕ = g.pairs in
    let hs : Stays En.signature.params En.kept = (stay_dropped (plain (λ _. FutureBook.the_row)) yes, (stay_dropped (plain (λ _. usize)) yes, (stay_dropped (plain (λ _. usize)) yes, tt))) in let goes = Goes-dropped 𝓛 1 (plain (λ _. usize)) yes (λ κs x f. refl) in
    proved 𝓛 En hs c 𝓜 𝓡 (Goes-dropped 𝓛 1 (plain (λ _. FutureBook.the_row)) yes (λ κs x f. refl), (goes, (goes, tt))) (#self inst) fn (code.unfolded 𝓤 H 𝓜 𝓡 wired (P, tt) d)
    (λ κs. (no_bytes, (uint_vals w64, (uint_vals w64, tt)))) (λ κs. (unopened_tells, (uint_Tells w64, (uint_Tells w64, tt)))) (λ κs qs bounds a gh are.
    let family : ℕ = a.0.family in let links : ℕ = a.1.0 in let size : ℕ = a.1.1.0 in
    let y : (walk_of 𝓛 En hs c).Ghost = ((κs, qs, bounds, a, (token ∷ [], (vint w64 links ∷ [], (vint w64 size ∷ [], tt)))), gh) in let Post : Val → SProp 𝓤 = (walk_of 𝓛 En hs c).post y in let toks : Fml = fsep (flft κs.0 qs.0) ftrue in
    let Four : RattleType = Tuple (Seen.the_row ∷ (Pass.the_row static_lft) ∷ Keys.the_row ∷ Sizes.the_row ∷ []) in let quad : Val = quad_val token token token token in
    qed 𝓛 ((‵ toks ⊛ ‵ (owns (types_at En.signature.params κs) a y.0.4)) ∷ raw ((c κs a).requires gh) ∷ []) ∵ split ! $ move ! (1 ∷ []) $ fsplit ! $ fsplit ! $
    -- [its marker; what it owns; the numbers; the tokens; what was asked]
    keep ! (1 ∷ 3 ∷ []) $
    enter ! 𝓣.C 𝓣.Λ fn (token ∷ vint w64 links ∷ vint w64 size ∷ []) Post $ alloc_all ! (λ l. pass_all ! refl ((tt, (tt, tt)), ((tt, record { fits = are.1.0.1 }), ((tt, record { fits = are.1.1.0.1 }), tt))) $
    use1 𝓛 (later (some (λ (m : Name). given ((m.family ≡ family) × (m.permits ≡ permits) × (m.pairs ≡ pairs) × BeganWith m links store table) (‵ (book_owns m []) ⊛ ‵ (pass_holds m 0 []) ⊛ ‵ (keys_own m (first_keys links)) ⊛ ‵ (first_sizes m.gate.sizes size)))))
    (begins 𝓛 links store table permits pairs size family) $ await ! tt $ pick ! (λ m. learn ! (λ so. split3 ! $ move ! (2 ∷ []) $ split ! $ move ! (1 ∷ []) $ fsplit ! $ move ! (3 ∷ 4 ∷ 2 ∷ 1 ∷ 0 ∷ []) $
    -- [what the book owns; the pass; what the keys own; the right to set the size; that it is one]
    let b : Seen.the_row.Denot = record { marker = record {}; name = m; seen = [] } in let k : Keys.the_row.Denot = record { marker = record {}; name = m; held = first_keys links } in
    let p : (Pass.the_row static_lft).Denot = record { marker = record {}; name = m; id = 0; size = size; seen = [] } in let z : Sizes.the_row.Denot = record { marker = record {}; name = m; most = size } in
    use1 𝓛 (‵ (book_owns m []) ⊛ ‵ (book_owns m [])) (book_twice 𝓛 m []) $ split ! $ move ! (1 ∷ []) $ fsplit ! $ move ! (0 ∷ 3 ∷ []) $ fjoin ! $ move ! (5 ∷ 0 ∷ []) $ fjoin ! $
    -- [what the pass owns; nothing was reached; what the book owns; what the keys own; the right to set the size]
    use0 𝓛 (‵ ((Mark static_lft).own_val (record {}, tt) (token ∷ []))) (mark_made 𝓛 static_lft) $ fjoin ! $
    move ! (2 ∷ []) $ use0 𝓛 (‵ (Token.own_val (record {}, tt) (token ∷ []))) (token_made 𝓛) $ fjoin ! $
    move ! (3 ∷ []) $ use0 𝓛 (‵ (Token.own_val (record {}, tt) (token ∷ []))) (token_made 𝓛) $ fjoin ! $
    move ! (4 ∷ []) $ use0 𝓛 (‵ (Token.own_val (record {}, tt) (token ∷ []))) (token_made 𝓛) $ fjoin ! $
    -- [the sizes; the keys; the book; the pass; nothing was reached]
    move ! (2 ∷ 3 ∷ 1 ∷ 0 ∷ []) $ group ! 4 $ use1 𝓛 (‵ (Four.own_val (b, p, k, z) (quad ∷ []))) (quad_of 𝓛 Seen.the_row (Pass.the_row static_lft) Keys.the_row Sizes.the_row b p k z token token token token) $
    sets ! (agg ! (no_more !)) refl (tt, tt) $ sets ! (agg ! (and_then ! (get ! refl) (no_more !))) refl (tt, (tt, tt)) $
    sets ! (agg ! (no_more !)) refl (tt, tt) $ sets ! (agg ! (and_then ! (get ! refl) (no_more !))) refl (tt, (tt, tt)) $
    sets ! (agg ! (no_more !)) refl (tt, tt) $ sets ! (agg ! (and_then ! (get ! refl) (no_more !))) refl (tt, (tt, tt)) $
    sets ! (agg ! (no_more !)) refl (tt, tt) $ sets ! (agg ! (and_then ! (get ! refl) (no_more !))) refl (tt, (tt, tt)) $
    sets ! (of_opd ! (get ! refl)) refl (tt, (tt, tt)) $ sets ! (of_opd ! (get ! refl)) refl (tt, (tt, tt)) $ sets ! (of_opd ! (get ! refl)) refl (tt, (tt, tt)) $
    sets ! (agg ! (and_then ! (get ! refl) (and_then ! (get ! refl) (and_then ! (get ! refl) (and_then ! (get ! refl) (no_more !)))))) refl (tt, ((tt, tt), ((tt, tt), ((tt, tt), ((tt, tt), tt))))) $
    -- [the result; what is let go; the tokens]
    nothing ! $ nothing ! $ fjoin ! $ nothing ! $ fjoin ! $ nothing ! $ fjoin ! $
    returns ! (look_at ! 0 refl) $ free_all ! refl $ keep ! (3 ∷ 0 ∷ 1 ∷ []) $
    by ! (ends 𝓛 En hs c y quad (b, p, k, z) (tt, (tt, (tt, tt))) (tt, (tt, (tt, tt))) (fact_i 𝓤 _ (emp 𝓤) ((refl, refl, refl), refl, (refl, refl), (so.3, refl, refl, refl), so.0, so.1, so.2)))))))
