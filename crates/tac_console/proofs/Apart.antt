-- The lines of records are told apart, and the fields of a line.
use Rattle.std.proofs.Common.{◌≡◌, ℕ, ◌^◌, ◌<◌, ◌&&◌, true, List, [], ◌∷◌, ◌++◌, drop, Option, Some, None, codes, nat_lt, append-nil, append_assoc, lit<, refl, sym, ap, ◌∙◌, arith}
use Rattle.std.specs.List.{list_all, flat_map}
use Rattle.std.specs.Fmt.{decimal}
use Rattle.std.proofs.lemmas.Bool.Decides.{nat_tests}
use Rattle.std.proofs.lemmas.Bool.{and_parts, and_from}
use Rattle.std.proofs.lemmas.Fmt.{decimal_injective}
use Rattle.basics.specs.Lines.{split_at_first}
use Rattle.pol_text.specs.Policy.{all_of}
use Rattle.tac_request.specs.declared.record.AcctKind.{AcctKind}
use Rattle.tac_request.specs.declared.record.AcctKind.TheVariants.{Begin, Stop, Watch, Update}
use Rattle.tac_request.specs.declared.record.Record.{Record}
use Rattle.tac_console.specs.Percent.{percent_form}
use Rattle.tac_desk.specs.declared.numbered.Numbered.{Numbered}
use Rattle.tac_console.specs.Answers.{kind_text, line_field, record_line}
use Rattle.tac_console.specs.Apart.{are_bytes, is_record, is_numbered, HasNoBlank, AreApart}
use Rattle.tac_console.proofs.Spaces.{is_without, split_whole, split_front}
use Rattle.tac_console.proofs.PercentFacts as percent
use Rattle.tac_console.proofs.PercentFacts.{visible-without, percent_apart, decimal_visible}

-- ---- splitting

parts_are : (a b x y : List ℕ) → ◌≡◌ {A = Option (List ℕ × List ℕ)} (Some (a, x)) (Some (b, y)) → (a ≡ b) × (x ≡ y)
parts_are a b x y e =
    let same : (let p : List ℕ × List ℕ = (a, x) in p) ≡ (b, y) = cc in
    (ap (λ (p : List ℕ × List ℕ). p.0) same, ap (λ (p : List ℕ × List ℕ). p.1) same)

-- fields without the separator that follows them are told apart, and so is what follows
split_same : (separator : ℕ) (a b x y : List ℕ) → is_without separator a ≡ true → is_without separator b ≡ true
    → a ++ separator ∷ x ≡ b ++ separator ∷ y → (a ≡ b) × (x ≡ y)
split_same separator a b x y h k same =
    parts_are a b x y (sym (split_front separator a x h) ∙ ap (split_at_first separator) same ∙ split_front separator b y k)

without-append : (separator : ℕ) (a b : List ℕ) → is_without separator a ≡ true → is_without separator b ≡ true → is_without separator (a ++ b) ≡ true
without-append separator [] b h k = k
without-append separator (x ∷ a) b h k =
    let parts = and_parts _ (is_without separator a) h in
    and_from _ (is_without separator (a ++ b)) parts.0 (without-append separator a b parts.1 k)

-- ---- fields without a blank or a line end

percent_without : (separator : ℕ) (text : List ℕ) → separator < 0x21 → are_bytes text ≡ true → is_without separator (percent_form text) ≡ true
percent_without separator text low h = visible-without separator (percent_form text) low (percent.percent_visible text h)

decimal_without : (separator n : ℕ) → separator < 0x21 → is_without separator (decimal n) ≡ true
decimal_without separator n low = visible-without separator (decimal n) low (decimal_visible n)

kind_without : (kind : AcctKind) → (is_without 32 (kind_text kind) ≡ true) × (is_without 10 (kind_text kind) ≡ true)
kind_without Begin = (refl, refl)
kind_without Stop = (refl, refl)
kind_without Watch = (refl, refl)
kind_without Update = (refl, refl)

kinds_apart : (a b : AcctKind) → kind_text a ≡ kind_text b → a ≡ b
kinds_apart Begin Begin e = refl
kinds_apart Begin Stop e = absurd cc
kinds_apart Begin Watch e = absurd cc
kinds_apart Begin Update e = absurd cc
kinds_apart Stop Begin e = absurd cc
kinds_apart Stop Stop e = refl
kinds_apart Stop Watch e = absurd cc
kinds_apart Stop Update e = absurd cc
kinds_apart Watch Begin e = absurd cc
kinds_apart Watch Stop e = absurd cc
kinds_apart Watch Watch e = refl
kinds_apart Watch Update e = absurd cc
kinds_apart Update Begin e = absurd cc
kinds_apart Update Stop e = absurd cc
kinds_apart Update Watch e = absurd cc
kinds_apart Update Update e = refl

-- ---- the last two fields

seconds_apart : (m n : ℕ) → m < 2 ^ 32 → n < 2 ^ 32 → decimal m ≡ decimal n → m ≡ n
seconds_apart m n small_m small_n same = decimal_injective m n (omega arith) (omega arith) same

-- seconds alone have no blank after them
alone_apart : (m n : ℕ) (line : List ℕ) → decimal m ++ [] ≡ decimal n ++ line_field (Some line) → ⊥
alone_apart m n line same =
    let alone : split_at_first 32 (decimal m ++ []) ≡ None = ap (split_at_first 32) (append-nil (decimal m)) ∙ split_whole 32 (decimal m) (decimal_without 32 m (lit< tt)) in
    let split = split_front 32 (decimal n) (codes "line " ++ percent_form line) (decimal_without 32 n (lit< tt)) in
    let both = ap (split_at_first 32) same in
    cc

-- the seconds, and then the line, if there is one
ends_apart : (m n : ℕ) (a b : Option (List ℕ)) → m < 2 ^ 32 → n < 2 ^ 32 → all_of are_bytes a ≡ true → all_of are_bytes b ≡ true
    → decimal m ++ line_field a ≡ decimal n ++ line_field b → (m ≡ n) × (a ≡ b)
ends_apart m n None None small_m small_n h k same =
    (seconds_apart m n small_m small_n (sym (append-nil (decimal m)) ∙ same ∙ append-nil (decimal n)), refl)
ends_apart m n None (Some b) small_m small_n h k same = absurd (alone_apart m n b same)
ends_apart m n (Some a) None small_m small_n h k same = absurd (alone_apart n m a (sym same))
ends_apart m n (Some a) (Some b) small_m small_n h k same =
    let split = split_same 32 (decimal m) (decimal n) (codes "line " ++ percent_form a) (codes "line " ++ percent_form b)
    (decimal_without 32 m (lit< tt)) (decimal_without 32 n (lit< tt)) same in
    (seconds_apart m n small_m small_n split.0, ap (λ (l : List ℕ). Some l) (percent_apart a b h k (ap (drop 5) split.1)))

-- ---- a line

-- the fields of a record's line
body : ℕ → Record → List ℕ
body number item =
    codes "record " ++ (decimal number ++ 32 ∷ (codes "user " ++ (percent_form item.user ++ 32 ∷ (kind_text item.kind ++ 32 ∷
    (codes "task " ++ (percent_form item.task ++ 32 ∷ (codes "elapsed " ++ (decimal item.elapsed ++ line_field item.line))))))))

line_is : (entry : Numbered) (rest : List ℕ) → record_line entry ++ rest ≡ body entry.number entry.item ++ 10 ∷ rest
unfolding body
line_is entry rest = simp append_assoc

record_parts : (a b : Record) → a.user ≡ b.user → a.kind ≡ b.kind → a.task ≡ b.task → a.elapsed ≡ b.elapsed → a.line ≡ b.line → a ≡ b
record_parts a b user kind task elapsed line =
    ap (λ (x : List ℕ). record a { user = x }) user
    ∙ ap (λ (x : AcctKind). record { user = b.user; kind = x; task = a.task; elapsed = a.elapsed; line = a.line }) kind
    ∙ ap (λ (x : List ℕ). record { user = b.user; kind = b.kind; task = x; elapsed = a.elapsed; line = a.line }) task
    ∙ ap (λ (x : ℕ). record { user = b.user; kind = b.kind; task = b.task; elapsed = x; line = a.line }) elapsed
    ∙ ap (λ (x : Option (List ℕ)). record b { line = x }) line

-- what is known of the parts of a record
IsRecord : Record → Type 0
IsRecord item = (are_bytes item.user ≡ true) × (are_bytes item.task ≡ true) × (all_of are_bytes item.line ≡ true) × (item.elapsed < 2 ^ 32)

small_seconds : (n : ℕ) → nat_lt n (2 ^ 32) ≡ true → n < 2 ^ 32
small_seconds n h = grind (arith, nat_tests)

known : (item : Record) → is_record item ≡ true → IsRecord item
unfolding IsRecord
known item h =
    let a = and_parts (are_bytes item.user && are_bytes item.task && all_of are_bytes item.line) (nat_lt item.elapsed (2 ^ 32)) h in
    let b = and_parts (are_bytes item.user && are_bytes item.task) (all_of are_bytes item.line) a.0 in
    let c = and_parts (are_bytes item.user) (are_bytes item.task) b.0 in
    (c.0, c.1, b.1, small_seconds item.elapsed a.1)

-- fields that are printed alike are the same
bodies_apart : (m n : ℕ) (a b : Record) → m < 2 ^ 64 → n < 2 ^ 64 → IsRecord a → IsRecord b → body m a ≡ body n b → (m ≡ n) × (a ≡ b)
unfolding body IsRecord
bodies_apart m n a b small_m small_n h k same =
    let numbers = split_same 32 (decimal m) (decimal n) _ _ (decimal_without 32 m (lit< tt)) (decimal_without 32 n (lit< tt)) (ap (drop 7) same) in
    let users = split_same 32 (percent_form a.user) (percent_form b.user) _ _ (percent_without 32 a.user (lit< tt) h.0) (percent_without 32 b.user (lit< tt) k.0) (ap (drop 5) numbers.1) in
    let kinds = split_same 32 (kind_text a.kind) (kind_text b.kind) _ _ (kind_without a.kind).0 (kind_without b.kind).0 users.1 in
    let tasks = split_same 32 (percent_form a.task) (percent_form b.task) _ _ (percent_without 32 a.task (lit< tt) h.1) (percent_without 32 b.task (lit< tt) k.1) (ap (drop 5) kinds.1) in
    let ends = ends_apart a.elapsed b.elapsed a.line b.line h.3 k.3 h.2 k.2 (ap (drop 8) tasks.1) in (
      decimal_injective m n small_m small_n numbers.0,
      record_parts a b (percent_apart a.user b.user h.0 k.0 users.0) (kinds_apart a.kind b.kind kinds.0) (percent_apart a.task b.task h.1 k.1 tasks.0) ends.0 ends.1,
    )

line_without : (line : Option (List ℕ)) → all_of are_bytes line ≡ true → is_without 10 (line_field line) ≡ true
line_without None h = refl
line_without (Some line) h = percent_without 10 line (lit< tt) h

-- a record's line has no line end but its own
body_without : (number : ℕ) (item : Record) → IsRecord item → is_without 10 (body number item) ≡ true
unfolding body IsRecord
body_without number item h =
    let end = without-append 10 (decimal item.elapsed) (line_field item.line) (decimal_without 10 item.elapsed (lit< tt)) (line_without item.line h.2) in
    let task = without-append 10 (percent_form item.task) _ (percent_without 10 item.task (lit< tt) h.1) end in
    let kind = without-append 10 (kind_text item.kind) _ (kind_without item.kind).1 task in
    let user = without-append 10 (percent_form item.user) _ (percent_without 10 item.user (lit< tt) h.0) kind in
    without-append 10 (decimal number) _ (decimal_without 10 number (lit< tt)) user

-- ---- all lines

small_number : (n : ℕ) → nat_lt n (2 ^ 64) ≡ true → n < 2 ^ 64
small_number n h = grind (arith, nat_tests)

entry_apart : (x y : Numbered) → is_numbered x ≡ true → is_numbered y ≡ true → body x.number x.item ≡ body y.number y.item → x ≡ y
entry_apart x y h k same =
    let here = and_parts (nat_lt x.number (2 ^ 64)) (is_record x.item) h in
    let there = and_parts (nat_lt y.number (2 ^ 64)) (is_record y.item) k in
    let parts = bodies_apart x.number y.number x.item y.item (small_number x.number here.0) (small_number y.number there.0) (known x.item here.1) (known y.item there.1) same in
    ap (λ (n : ℕ). record x { number = n }) parts.0 ∙ ap (λ (i : Record). record y { item = i }) parts.1

entry_without : (entry : Numbered) → is_numbered entry ≡ true → is_without 10 (body entry.number entry.item) ≡ true
entry_without entry h = body_without entry.number entry.item (known entry.item (and_parts (nat_lt entry.number (2 ^ 64)) (is_record entry.item) h).1)

lines_apart : (a b : List Numbered) → list_all is_numbered a ≡ true → list_all is_numbered b ≡ true → flat_map record_line a ≡ flat_map record_line b → a ≡ b
lines_apart [] [] h k same = refl
lines_apart [] (y ∷ b) h k same = absurd cc
lines_apart (x ∷ a) [] h k same = absurd cc
lines_apart (x ∷ a) (y ∷ b) h k same =
    let here = and_parts (is_numbered x) (list_all is_numbered a) h in
    let there = and_parts (is_numbered y) (list_all is_numbered b) k in
    let split = split_same 10 (body x.number x.item) (body y.number y.item) (flat_map record_line a) (flat_map record_line b)
    (entry_without x here.0) (entry_without y there.0)
    (sym (line_is x (flat_map record_line a)) ∙ same ∙ line_is y (flat_map record_line b)) in
    let first = entry_apart x y here.0 there.0 split.0 in
    let rest = lines_apart a b here.1 there.1 split.1 in
    cc

-- records that are printed alike are the same
pub records_apart : (a b : List Numbered) → AreApart a b
records_apart [] [] h k same = refl
records_apart [] (y ∷ b) h k same = absurd cc
records_apart (x ∷ a) [] h k same = absurd cc
records_apart (x ∷ a) (y ∷ b) h k same = lines_apart (x ∷ a) (y ∷ b) h k same

-- a field in percent form has no blank and no line end
pub percent_visible : (text : List ℕ) → HasNoBlank text
percent_visible = percent.percent_visible
