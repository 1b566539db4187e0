-- A line tells a caller exactly if its six words do.
use Rattle.std.proofs.Common.{◌≡◌, inl, inr, ℕ, ◌≤◌, true, false, not, eqb, eq-eqb, eqb-true, List, [], ◌∷◌, ◌++◌, length, get_or, take, drop, IsTrue, Option, Some, None, IfSome, IfNone, decimal, refl, sym, ap, subst, ◌∙◌, arith, append_assoc, codes, rules}
use Rattle.std.specs.Cmp.Lexicographic.{pointwise}
use Rattle.std.proofs.lemmas.List.{append_cancel_left, take-append-drop}
use Rattle.basics.specs.Equality.{pointwise-identical}
use Rattle.std.specs.Net.Grammar.{IsIpText}
use Rattle.std.specs.declared.net.ip_addr.IpAddr.{IpAddr}
use Rattle.std.specs.declared.net.ip_addr.IpAddr.TheVariants as Ip
use Rattle.std.specs.declared.net.socket_addr.SocketAddr.{SocketAddr}
use Rattle.std.proofs.NetLemmas.Options.{and_then_some, map_some}
use Rattle.std.proofs.NetLemmas.Theorems.{IsIpText_unique}
use Rattle.std.proofs.lemmas.Option.{none-some, same_Some}
use Rattle.basics.specs.Lines.{split_at_first}
use Rattle.basics.proofs.LineFacts.{parts_joined}
use Rattle.tac_proxy.specs.Line.{family_word, TellsCaller, TellsNone}
use Rattle.tac_proxy.specs.Words.{SixWords, six_words, WordsTell}
use Rattle.tac_proxy.proofs.SpaceFacts.{IsWord, IsWord-ip, IsWord-decimal, split-word}

-- six words, with one space between each two
abbrev pub line_of : SixWords → List ℕ
line_of w = w.protocol ++ 32 ∷ (w.family ++ 32 ∷ (w.source ++ 32 ∷ (w.target ++ 32 ∷ (w.source_port ++ 32 ∷ w.target_port))))

pub six_words-line : (w : SixWords) → IsWord w.protocol → IsWord w.family → IsWord w.source → IsWord w.target → IsWord w.source_port → six_words (line_of w) ≡ Some w
six_words-line w p f s t a =
    rw (
      split-word w.protocol _ p,
      split-word w.family _ f,
      split-word w.source _ s,
      split-word w.target _ t,
      split-word w.source_port _ a,
    ) refl

joined : (line a b : List ℕ) → split_at_first 32 line ≡ Some (a, b) → line ≡ a ++ 32 ∷ b
joined line a b e = parts_joined 32 line a b e

pub line-six_words : (line : List ℕ) (w : SixWords) → six_words line ≡ Some w → line ≡ line_of w
line-six_words line w h =
    and_then_some _ (split_at_first 32 line) w h λ a ea h₁.
    and_then_some _ (split_at_first 32 a.1) w h₁ λ b eb h₂.
    and_then_some _ (split_at_first 32 b.1) w h₂ λ c ec h₃.
    and_then_some _ (split_at_first 32 c.1) w h₃ λ d ed h₄.
    map_some _ (split_at_first 32 d.1) w h₄ λ e ee is.
    let all : line ≡ a.0 ++ 32 ∷ (b.0 ++ 32 ∷ (c.0 ++ 32 ∷ (d.0 ++ 32 ∷ (e.0 ++ 32 ∷ e.1)))) =
    joined line a.0 a.1 ea ∙ ap (λ (t : List ℕ). a.0 ++ 32 ∷ t) (joined a.1 b.0 b.1 eb
    ∙ ap (λ (t : List ℕ). b.0 ++ 32 ∷ t) (joined b.1 c.0 c.1 ec
    ∙ ap (λ (t : List ℕ). c.0 ++ 32 ∷ t) (joined c.1 d.0 d.1 ed
    ∙ ap (λ (t : List ℕ). d.0 ++ 32 ∷ t) (joined d.1 e.0 e.1 ee)))) in
    all ∙ ap line_of is

family_is_word : (ip : IpAddr) → IsWord (family_word ip)
family_is_word (Ip.V4 a) = record { all = search rules }
family_is_word (Ip.V6 a) = record { all = search rules }

proxy_is_word : IsWord (codes "PROXY")
proxy_is_word = record { all = search rules }

-- the words that a line that tells a caller has
words_of : (line : List ℕ) (caller : SocketAddr) → TellsCaller line caller → SixWords
words_of line caller h = record {
  protocol = codes "PROXY";
  family = family_word h.source;
  source = h.source_text;
  target = h.target_text;
  source_port = decimal h.source_port;
  target_port = decimal h.target_port;
}

spelled_in_words : (f s t a b : List ℕ) → codes "PROXY " ++ f ++ codes " " ++ s ++ codes " " ++ t ++ codes " " ++ a ++ codes " " ++ b ≡ codes "PROXY" ++ 32 ∷ (f ++ 32 ∷ (s ++ 32 ∷ (t ++ 32 ∷ (a ++ 32 ∷ b))))
spelled_in_words f s t a b = simp append_assoc

-- a line that tells a caller has six words that do
pub caller-words : (line : List ℕ) (caller : SocketAddr) → TellsCaller line caller → (w : SixWords) × (six_words line ≡ Some w) × WordsTell w caller
unfolding words_of
caller-words line caller h =
    let w = words_of line caller h in
    let spelled : line ≡ line_of w = h.spelled ∙ spelled_in_words (family_word h.source) h.source_text h.target_text (decimal h.source_port) (decimal h.target_port) in
    let words : six_words (line_of w) ≡ Some w =
    six_words-line w proxy_is_word (family_is_word h.source) (IsWord-ip _ _ h.source_address) (IsWord-ip _ _ h.target_address) (IsWord-decimal _ h.ports.0) in (
      w,
      ap six_words spelled ∙ words,
      record {
        protocol = refl;
        source = h.source;
        target = h.target;
        source_port = h.source_port;
        target_port = h.target_port;
        source_address = h.source_address;
        target_address = h.target_address;
        source_family = refl;
        target_family = sym h.one_family;
        source_digits = (refl, h.ports.0);
        target_digits = (refl, h.ports.1);
        told = h.told;
      },
    )

line_by_words : (w : SixWords) (f s t a b : List ℕ) → w.protocol ≡ codes "PROXY" → w.family ≡ f → w.source ≡ s → w.target ≡ t → w.source_port ≡ a → w.target_port ≡ b → line_of w ≡ codes "PROXY" ++ 32 ∷ (f ++ 32 ∷ (s ++ 32 ∷ (t ++ 32 ∷ (a ++ 32 ∷ b))))
line_by_words w f s t a b e₁ e₂ e₃ e₄ e₅ e₆ = rw (e₁, e₂, e₃, e₄, e₅, e₆) refl

-- and a line whose six words do tells it
pub words-caller : (line : List ℕ) (w : SixWords) (caller : SocketAddr) → six_words line ≡ Some w → WordsTell w caller → TellsCaller line caller
words-caller line w caller e h = record {
  source = h.source;
  target = h.target;
  source_text = w.source;
  target_text = w.target;
  source_port = h.source_port;
  target_port = h.target_port;
  spelled =
      line-six_words line w e ∙ line_by_words w (family_word h.source) w.source w.target (decimal h.source_port) (decimal h.target_port) h.protocol h.source_family refl refl h.source_digits.0 h.target_digits.0
      ∙ sym (spelled_in_words (family_word h.source) w.source w.target (decimal h.source_port) (decimal h.target_port));
  source_address = h.source_address;
  target_address = h.target_address;
  one_family = sym h.target_family ∙ h.source_family;
  ports = (h.source_digits.1, h.target_digits.1);
  told = h.told;
}

pub no_words : (line : List ℕ) (caller : SocketAddr) → six_words line ≡ None → TellsCaller line caller → ⊥
no_words line caller none h =
    let found = caller-words line caller h in
    absurd (none-some found.0 (sym none ∙ found.1))

pub found_in : (line : List ℕ) (w : SixWords) (r : Option SocketAddr) → six_words line ≡ Some w → IfSome r (WordsTell w) → IfSome r (TellsCaller line)
found_in line w None e h = tt
found_in line w (Some caller) e h = words-caller line w caller e h

pub none_in : (line : List ℕ) (w : SixWords) (r : Option SocketAddr) → six_words line ≡ Some w → IfNone r ((caller : SocketAddr) → ¬ (WordsTell w caller)) → IfNone r ((caller : SocketAddr) → ¬ (TellsCaller line caller))
none_in line w (Some caller) e h = tt
none_in line w None e h =
    λ caller told.
    let found = caller-words line caller told in
    let same : found.0 ≡ w = same_Some _ _ (sym found.1 ∙ e) in
    h caller (subst (λ (v : SixWords). WordsTell v caller) same found.2)

-- ---- the family of an address is that of its text

pub other_family : (w : SixWords) (ip : IpAddr) → IsIpText w.source ip → (w.family ≡ family_word ip → ⊥) → (caller : SocketAddr) → WordsTell w caller → ⊥
other_family w ip parsed differs caller h = differs (h.source_family ∙ ap family_word (IsIpText_unique _ _ _ h.source_address parsed))

pub other_target : (w : SixWords) (ip : IpAddr) → IsIpText w.target ip → (w.family ≡ family_word ip → ⊥) → (caller : SocketAddr) → WordsTell w caller → ⊥
other_target w ip parsed differs caller h = differs (h.target_family ∙ ap family_word (IsIpText_unique _ _ _ h.target_address parsed))

pointwise_same : (a : List ℕ) → pointwise eqb a a ≡ true
pointwise_same [] = refl
pointwise_same (x ∷ a) = rw (eq-eqb x x refl) (pointwise_same a)

-- bytes that compare as different are
pub differ : (a b : List ℕ) → true ≡ not (pointwise eqb a b) → a ≡ b → ⊥
differ a b e same =
    let alike : pointwise eqb a b ≡ true = ap (pointwise eqb a) (sym same) ∙ pointwise_same a in
    let wrong : true ≡ false = e ∙ ap not alike in
    absurd cc

-- `PROXY UNKNOWN` with something after it
pub unknown_iff : (line rest prefix : List ℕ) → prefix ≡ codes "PROXY UNKNOWN" → pointwise eqb (take (length prefix) line) prefix ≡ true → rest ≡ drop (length prefix) line → 1 ≤ length rest
    → (IsTrue (eqb (get_or rest 0 0) 32) → TellsNone line) × (TellsNone line → IsTrue (eqb (get_or rest 0 0) 32))
unknown_iff line rest prefix prefix_is same rest_is some =
    let front : take (length prefix) line ≡ prefix = pointwise-identical (λ x y e. eqb-true x y e) _ _ same in
    let whole : line ≡ codes "PROXY UNKNOWN" ++ rest = sym (take-append-drop (length prefix) line) ∙ by (front ∙ prefix_is) (sym rest_is) in (
      λ spaced. inr (drop 1 rest, whole ∙ ap (λ (t : List ℕ). codes "PROXY UNKNOWN" ++ t) (first rest some (eqb-true _ _ spaced))),
      λ told. elim told [
        | inl alone ↦
            let none : rest ≡ [] = append_cancel_left (codes "PROXY UNKNOWN") rest [] (sym whole ∙ alone) in
            let zero : length rest ≡ 0 = ap length none in
            absurd (omega arith)
        | inr (more, spelled) ↦
            let is : rest ≡ 32 ∷ more = append_cancel_left (codes "PROXY UNKNOWN") rest (32 ∷ more) (sym whole ∙ spelled) in
            rw is refl
      ],
    )
  where
    by : {a b c d : List ℕ} → a ≡ b → c ≡ d → a ++ c ≡ b ++ d
    by e f = cc

    first : (rest : List ℕ) → 1 ≤ length rest → get_or rest 0 0 ≡ 32 → rest ≡ 32 ∷ drop 1 rest
    first [] le e = absurd (omega arith)
    first (x ∷ rest) le e = ap (λ (b : ℕ). b ∷ rest) e

-- none of the words has a space
pub words_are : (w : SixWords) (caller : SocketAddr) → WordsTell w caller → IsWord w.protocol × IsWord w.family × IsWord w.source × IsWord w.target × IsWord w.source_port × IsWord w.target_port
words_are w caller h = (
  subst IsWord (sym h.protocol) proxy_is_word,
  subst IsWord (sym h.source_family) (family_is_word h.source),
  IsWord-ip _ _ h.source_address,
  IsWord-ip _ _ h.target_address,
  subst IsWord (sym h.source_digits.0) (IsWord-decimal _ h.source_digits.1),
  subst IsWord (sym h.target_digits.0) (IsWord-decimal _ h.target_digits.1),
)
