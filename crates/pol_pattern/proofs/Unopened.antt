-- What stands before a parenthesis that closes nothing: alternatives, from the begin on.
use Rattle.std.proofs.Common.{◌≡◌, ℕ, zero, suc, ◌+◌, ◌-◌, ◌<◌, ◌≤◌, Bool, true, nat_le, List, [], ◌∷◌, ◌++◌, length, drop, take, Err, refl, sym, ap, subst, ◌∙◌, inl, inr, length-append, length-drop, arith}
use Rattle.std.proofs.Math.Seq.{take-append-add}
use Rattle.std.proofs.lemmas.List.{drop-take}
use Rattle.std.proofs.lemmas.Bool.{and_parts}
use Rattle.basics.specs.Symbol.{is_symbol, is_text}
use Rattle.pol_pattern.specs.declared.version.Version.{Version}
use Rattle.pol_pattern.specs.declared.token.Token.{Token}
use Rattle.pol_pattern.specs.declared.token.Token.TheVariants as tokens
use Rattle.pol_pattern.specs.declared.fault.PatternFault.TheVariants as faults
use Rattle.pol_pattern.specs.Spelling.{suffix_bytes, atom_bytes}
use Rattle.pol_pattern.specs.Reading.{token_at, Context, outermost, closed, context_after, at_end, tokens_from}
use Rattle.pol_pattern.specs.Places.{AreAlternatives}
use Rattle.pol_pattern.proofs.Steps.{chosen, done, refused}
use Rattle.pol_pattern.proofs.TokenFacts.{TokenSpelled, token_spelled}
use Rattle.pol_pattern.proofs.Soundness.{Rest, rest_end, token_in, few_opened, rest_tree}
use Rattle.pol_pattern.proofs.Places.{same_fault, bind_err, byte_at, token_fault, Known, context_known}

-- ---- a token of the bytes that stand before a place

cut_front : (byte : ℕ) (rest front : List ℕ) (k n : ℕ) → byte ∷ rest ≡ front ++ drop k rest → k + n ≤ length rest → byte ∷ take (k + n) rest ≡ front ++ drop k (take (k + n) rest)
cut_front byte rest front k n whole within =
    let long : length front ≡ k + 1 = omega (arith, within, ap length whole, length-append front (drop k rest), length-drop k rest) in
    let sum : suc (k + n) ≡ length front + n = omega (arith, long) in
    ap (take (suc (k + n))) whole ∙ ap (λ (m : ℕ). take m (front ++ drop k rest)) sum ∙ take-append-add front (drop k rest) n
    ∙ ap (λ (b : List ℕ). front ++ b) (sym (drop-take k n rest))

spelled_before : (version : Version) (byte : ℕ) (rest : List ℕ) (token : Token) (size n : ℕ) → TokenSpelled version byte rest token size → size - 1 + n ≤ length rest → TokenSpelled version byte (take (size - 1 + n) rest) token size
spelled_before version byte rest (tokens.Atom c) size n (tree, right, depth, factors, whole) within = (tree, right, depth, factors, cut_front byte rest (atom_bytes tree) (size - 1) n whole within)
spelled_before version byte rest (tokens.Repeat repeat) size n (suffix, right, same, whole) within = (suffix, right, same, cut_front byte rest (suffix_bytes suffix) (size - 1) n whole within)
spelled_before version byte rest tokens.Bar size n spelled within = spelled
spelled_before version byte rest tokens.Open size n spelled within = spelled
spelled_before version byte rest tokens.Close size n spelled within = spelled

-- ---- all tokens before the place

-- these many bytes from the context on are tokens, and then comes the place
record Before (version : Version) (context : Context) (place : ℕ) (bytes : List ℕ) (last : ℕ) : Type 0 where
  pub count : ℕ
  pub found : List Token
  pub is : last ≡ place + count
  pub within : count < length bytes
  pub rest : Rest version context (take count bytes) found

no_end : (opened : List ℕ) (last : ℕ) → at_end opened ≡ Err (faults.Unopened last) → ⊥
no_end [] last e = refused (faults.Unopened last) _ (sym e)
no_end (first ∷ others) last e = unlike (same_fault {A = List Token} (faults.Unclosed first) (faults.Unopened last) e)
  where
    unlike : faults.Unclosed first ≡ faults.Unopened last → ⊥
    unlike e = cc

-- only a `)` that closes nothing stops so
closes_nothing : (version : Version) (place last : ℕ) (opened : List ℕ) (flag : Bool) → closed place opened ≡ Err (faults.Unopened last) → (last ≡ place) × Rest version (record { opened = opened; has_atom = flag }) [] []
closes_nothing version place last [] flag e = (same last place (same_fault {A = Context} (faults.Unopened place) (faults.Unopened last) e), rest_end version flag)
  where
    same : (a b : ℕ) → faults.Unopened b ≡ faults.Unopened a → a ≡ b
    same a b e = cc
closes_nothing version place last (first ∷ opened) flag e = absurd (refused (faults.Unopened last) _ (sym e))

stops_here : (version : Version) (place last : ℕ) (token : Token) (context : Context) → context_after place token context ≡ Err (faults.Unopened last) → (last ≡ place) × Rest version context [] []
unfolding context_after
stops_here version place last (tokens.Atom c) context e = absurd (refused (faults.Unopened last) _ (sym e))
stops_here version place last (tokens.Repeat repeat) context e =
    elim (chosen context.has_atom (done context) _ (Err (faults.Unopened last)) e) [
      | inl atom ↦ absurd (refused (faults.Unopened last) context (sym atom.1))
      | inr none ↦ absurd (unlike (same_fault {A = Context} (faults.NothingToRepeat place) (faults.Unopened last) none.1))
    ]
  where
    unlike : faults.NothingToRepeat place ≡ faults.Unopened last → ⊥
    unlike e = cc
stops_here version place last tokens.Bar context e = absurd (refused (faults.Unopened last) _ (sym e))
stops_here version place last tokens.Open context e =
    elim (chosen (nat_le 32 (length context.opened)) (Err faults.TooDeep) _ (Err (faults.Unopened last)) e) [
      | inl deep ↦ absurd (unlike (same_fault {A = Context} faults.TooDeep (faults.Unopened last) deep.1))
      | inr room ↦ absurd (refused (faults.Unopened last) _ (sym room.1))
    ]
  where
    unlike : faults.TooDeep ≡ faults.Unopened last → ⊥
    unlike e = cc
stops_here version place last tokens.Close context e = closes_nothing version place last context.opened context.has_atom e

before : (version : Version) (whole : List ℕ) (place skip : ℕ) (context : Context) (bytes : List ℕ) (last : ℕ) → drop place whole ≡ bytes → is_text bytes ≡ true → length context.opened ≤ 32 → Known whole place skip context
    → tokens_from version place skip context bytes ≡ Err (faults.Unopened last) → Before version context (place + skip) (drop skip bytes) last
unfolding tokens_from
before version whole place zero context [] last here text few known e = absurd (no_end context.opened last e)
before version whole place (suc skip) context [] last here text few known e = absurd (no_end context.opened last e)
before version whole place (suc skip) context (byte ∷ rest) last here text few known e =
    let more = before version whole (place + 1) skip context rest last (byte_at whole place byte rest here).2 (and_parts (is_symbol byte) (is_text rest) text).1 few
    (record { opened = known.opened; begins = λ none. absurd (omega (arith, (known.begins none).0)) }) e in
    record { count = more.count; found = more.found; is = omega (arith, more.is); within = more.within; rest = more.rest }
before version whole place zero context (byte ∷ rest) last here text few known e =
    elim (bind_err (token_at version context.has_atom place byte rest) _ (faults.Unopened last) e) [
      | inl read ↦ absurd (token_fault version context.has_atom whole place byte rest (faults.Unopened last) here (λ none. (known.begins none).1) read)
      | inr a ↦
          let spelled = token_spelled version context.has_atom place byte rest a.0 text a.1 in
          elim (bind_err (context_after place a.0.0 context) _ (faults.Unopened last) a.2) [
            | inl stopped ↦
                let stop = stops_here version place last a.0.0 context stopped in
                record { count = 0; found = []; is = omega (arith, stop.0); within = omega arith; rest = stop.1 }
            | inr b ↦
                elim (bind_err (tokens_from version (place + 1) (a.0.1 - 1) b.0 rest) (λ others. done (a.0.0 ∷ others)) (faults.Unopened last) b.2) [
                  | inl later ↦
                      let more = before version whole (place + 1) (a.0.1 - 1) b.0 rest last (byte_at whole place byte rest here).2 (and_parts (is_symbol byte) (is_text rest) text).1
                      (few_opened place a.0.0 context b.0 few b.1) (context_known version whole place byte rest a.0.0 a.0.1 context b.0 here spelled known b.1) later in
                      let inside : a.0.1 - 1 + more.count ≤ length rest = omega (arith, more.within, length-drop (a.0.1 - 1) rest) in
                      let same : drop (a.0.1 - 1) (take (a.0.1 - 1 + more.count) rest) ≡ take more.count (drop (a.0.1 - 1) rest) = drop-take (a.0.1 - 1) more.count rest in
                      record {
                        count = suc (a.0.1 - 1 + more.count);
                        found = a.0.0 ∷ more.found;
                        is = omega (arith, more.is);
                        within = omega (arith, more.within, length-drop (a.0.1 - 1) rest);
                        rest = token_in version place byte (take (a.0.1 - 1 + more.count) rest) a.0.0 a.0.1 context b.0 more.found few
                            (spelled_before version byte rest a.0.0 a.0.1 more.count spelled inside) b.1 (subst (λ (x : List ℕ). Rest version b.0 x more.found) (sym same) more.rest);
                      }
                  | inr c ↦ absurd (refused (faults.Unopened last) _ (sym c.2))
                ]
          ]
    ]

pub unopened : (version : Version) (whole : List ℕ) (last : ℕ) → is_text whole ≡ true → tokens_from version 0 0 outermost whole ≡ Err (faults.Unopened last) → AreAlternatives version (take last whole)
unopened version whole last text e =
    let known : Known whole 0 0 outermost = record { opened = tt; begins = λ none. (refl, inl refl) } in
    let so_far = before version whole 0 0 outermost whole last refl text (omega arith) known e in
    let of = rest_tree version (take so_far.count whole) so_far.found so_far.rest in
    let same : so_far.count ≡ last = omega (arith, so_far.is) in
    (of.tree, of.right, of.spelled ∙ ap (λ (n : ℕ). take n whole) same)
