-- The attributes that a subject gives are added one after another.
use Rattle.std.proofs.Common.{◌≡◌, ℕ, ◌+◌, ◌<◌, ◌≤◌, Bool, true, false, ◌||◌, List, [], ◌∷◌, ◌++◌, length, Option, None, Some, is_some, refl, sym, ap, subst, ◌∙◌, arith, append_assoc, suc, get_or, drop, drop-cons, add-one}
use Rattle.std.specs.Prelude.{All, filter_map}
use Rattle.std.specs.List.{list_any, cons_option}
use Rattle.std.specs.Option.{option_map_or}
use Rattle.std.proofs.lemmas.Bool.{both_ways}
use Rattle.std.proofs.lemmas.List.{length-append}
use Rattle.std.proofs.lemmas.List.Elements.{All-head, All-tail}
use Rattle.pol_names.specs.declared.service.ServiceId.{ServiceId}
use Rattle.pol_names.specs.declared.service.ServiceLine.{ServiceLine}
use Rattle.pol_names.specs.SubjectId.{user_id}
use Rattle.pol_text.specs.Policy.{level_of}
use Rattle.pol_text.specs.declared.subject.Subject.{Subject}
use Rattle.pol_given.specs.Given.{attribute_in, attributes_of, speaking, the_shell, shell_attributes}
use Rattle.tac_request.specs.Arguments.{level_arguments}
use Rattle.tac_conn.specs.declared.ask.Answer.TheVariants.{Permitted, Granted}
use Rattle.tac_desk.specs.Asking.{gives_arguments, permitted, with_attributes}

module _ (service : ServiceId) where
  -- what lines give
  abbrev given : List ServiceLine → List (List ℕ)
  given lines = filter_map (attribute_in service) lines

  abbrev gives : ServiceLine → Bool
  gives line = is_some (attribute_in service line)

  pub none_given : (lines : List ServiceLine) → list_any gives lines ≡ false → given lines ≡ []
  none_given [] e = refl
  none_given (line ∷ rest) e = by (attribute_in service line) e (none_given rest)
    where
      by : (text : Option (List ℕ)) → (is_some text || list_any gives rest) ≡ false → (list_any gives rest ≡ false → given rest ≡ []) → cons_option text (given rest) ≡ []
      by None h later = later h
      by (Some t) h later = absurd cc

  pub any_given : (lines : List ServiceLine) → given lines ≡ [] → list_any gives lines ≡ false
  any_given [] e = refl
  any_given (line ∷ rest) e = by (attribute_in service line) e (any_given rest)
    where
      by : (text : Option (List ℕ)) → cons_option text (given rest) ≡ [] → (given rest ≡ [] → list_any gives rest ≡ false) → (is_some text || list_any gives rest) ≡ false
      by None h later = later h
      by (Some t) h later = absurd cc

  module _ (was : List (List ℕ)) (lines : List ServiceLine) where
    -- what was there, and what lines gave, is now there but for what the rest gives
    pub record IsLeft (now : List (List ℕ)) (rest : List ServiceLine) : Type 0 where
      pub so : now ++ given rest ≡ was ++ given lines
      pub few : length (given rest) ≤ length (given lines)
      pub short : All (λ text. length text ≤ 255) (given rest)

    -- the next line gives nothing
    past : (now : List (List ℕ)) (line : ServiceLine) (rest : List ServiceLine) → attribute_in service line ≡ None → IsLeft now (line ∷ rest) → IsLeft now rest
    past now line rest e left =
        let same : given (line ∷ rest) ≡ given rest = ap (λ (o : Option (List ℕ)). cons_option o (given rest)) e in
        record {
          so = rw same at left.so;
          few = rw same at left.few;
          short = rw same at left.short;
        }

    -- it gives this text
    pub record IsNext (now : List (List ℕ)) (text : List ℕ) (rest : List ServiceLine) : Type 0 where
      pub room : length was + length (given lines) ≤ 255 → length now < 255
      pub short : length text ≤ 255
      pub some : given lines ≡ [] → ⊥
      pub left : IsLeft (now ++ text ∷ []) rest

    next : (now : List (List ℕ)) (line : ServiceLine) (text : List ℕ) (rest : List ServiceLine) → attribute_in service line ≡ Some text → IsLeft now (line ∷ rest) → IsNext now text rest
    next now line text rest e left =
        let same : given (line ∷ rest) ≡ text ∷ given rest = ap (λ (o : Option (List ℕ)). cons_option o (given rest)) e in
        let so : now ++ text ∷ given rest ≡ was ++ given lines = rw same at left.so in
        let few : length (text ∷ given rest) ≤ length (given lines) = rw same at left.few in
        let short : All (λ t. length t ≤ 255) (text ∷ given rest) = rw same at left.short in
        let size : length now + length (text ∷ given rest) ≡ length was + length (given lines) =
        sym (length-append now (text ∷ given rest)) ∙ ap length so ∙ length-append was (given lines) in
        record {
          room = λ room. omega arith;
          short = All-head (λ (t : List ℕ). length t ≤ 255) text (given rest) short;
          some = λ none. let size : length (given lines) ≡ 0 = ap length none in omega arith;
          left = record {
            so = append_assoc now (text ∷ []) (given rest) ∙ so;
            few = omega arith;
            short = All-tail (λ (t : List ℕ). length t ≤ 255) text (given rest) short;
          };
        }

    -- the line at hand comes before the rest
    at_line : (now : List (List ℕ)) (i : ℕ) (line : ServiceLine) → i < length lines → get_or lines i line ≡ line → IsLeft now (drop i lines) → IsLeft now (line ∷ drop (i + 1) lines)
    at_line now i line lt at left =
        let front : drop i lines ≡ line ∷ drop (i + 1) lines =
        drop-cons lines i line lt ∙ ap (λ (x : ServiceLine). x ∷ drop (suc i) lines) at ∙ ap (λ (n : ℕ). line ∷ drop n lines) (sym (add-one i)) in
        subst (IsLeft now) front left

    pub past_at : (now : List (List ℕ)) (i : ℕ) (line : ServiceLine) → i < length lines → get_or lines i line ≡ line → attribute_in service line ≡ None → IsLeft now (drop i lines)
        → IsLeft now (drop (i + 1) lines)
    past_at now i line lt at e left = past now line (drop (i + 1) lines) e (at_line now i line lt at left)

    pub next_at : (now : List (List ℕ)) (i : ℕ) (line : ServiceLine) (text : List ℕ) → i < length lines → get_or lines i line ≡ line → attribute_in service line ≡ Some text → IsLeft now (drop i lines)
        → IsNext now text (drop (i + 1) lines)
    next_at now i line text lt at e left = next now line text (drop (i + 1) lines) e (at_line now i line lt at left)

-- ---- what takes memory

-- no arguments, so no attributes
gives_none : (level : Option ℕ) (attributes : List (List ℕ)) → gives_arguments (with_attributes level attributes) ≡ false → attributes ≡ []
gives_none level [] e = refl
gives_none None (attribute ∷ attributes) e = absurd cc
gives_none (Some level) (attribute ∷ attributes) e = absurd cc

level_first : (level : Option ℕ) (attributes : List (List ℕ)) → (attributes ≡ [] → ⊥) → with_attributes level attributes ≡ Granted (level_arguments level ++ attributes)
level_first level [] some = absurd (some refl)
level_first level (attribute ∷ attributes) some = refl

module _ (policy : List Subject) (name : List ℕ) (service : ServiceId) (owner : Subject) (is : service ≡ the_shell) (found : Some owner ≡ speaking policy name service) where
  -- whoever decides on a shell gives all that it gets
  shell_by : shell_attributes policy name ≡ attributes_of service owner
  shell_by =
      let there : Some owner ≡ speaking policy name the_shell = found ∙ ap (λ (s : ServiceId). speaking policy name s) is in
      ap (λ (o : Option Subject). option_map_or (attributes_of the_shell) o []) (sym there) ∙ ap (λ (s : ServiceId). attributes_of s owner) (sym is)

  -- nothing, so that the level is all
  pub level_alone : list_any (gives service) owner.services ≡ false → permitted policy name [] ≡ Permitted (level_of policy (user_id name))
  level_alone e = ap (with_attributes (level_of policy (user_id name))) (shell_by ∙ none_given service owner.services e)

  is_some_given : list_any (gives service) owner.services ≡ true → attributes_of service owner ≡ [] → ⊥
  is_some_given some nothing = both_ways (list_any (gives service) owner.services) (any_given service owner.services nothing) some

  -- something, before which the level comes
  pub level_before : list_any (gives service) owner.services ≡ true → permitted policy name [] ≡ Granted (level_arguments (level_of policy (user_id name)) ++ attributes_of service owner)
  level_before some =
      let level = level_of policy (user_id name) in
      ap (with_attributes level) shell_by ∙ level_first level (attributes_of service owner) (is_some_given some)

  -- then the answer takes memory
  pub some_given : list_any (gives service) owner.services ≡ true → gives_arguments (permitted policy name []) ≡ false → ⊥
  some_given some e = is_some_given some (sym shell_by ∙ gives_none (level_of policy (user_id name)) (shell_attributes policy name) e)
