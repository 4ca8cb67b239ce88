-- The lines that were listed, and the sessions that they were read as.
use Rattle.std.proofs.Common.{◌≡◌, ℕ, ◌+◌, ◌<◌, ◌≤◌, List, [], ◌∷◌, ◌++◌, Bool, true, false, cond, length, filter, map, take, drop, get_or, refl, sym, ap, ◌∙◌, subst, arith, inl, inr}
use Rattle.std.specs.List.{AllByRecursion, enumerate_from}
use Rattle.std.specs.Str.Lines.{lines}
use Rattle.std.proofs.lemmas.List.{append_assoc, append-nil, drop_more, length-append, map-append, take-append-drop}
use Rattle.std.proofs.lemmas.List.Elements.{filter-append}
use Rattle.shell_text.specs.TextLaws.{cond_false, cond_true}
use Rattle.shell_line.specs.declared.line_kind.LineKind.{LineKind}
use Rattle.shell_value.specs.Cut.{behind}
use Rattle.shell_lang.specs.Line.{Asks}
use Rattle.shell_script.specs.declared.session.NumberedJob.{NumberedJob}
use Rattle.shell_script.specs.declared.session.Session.{Session}
use Rattle.shell_script.specs.Block.{begins, block_name, is_used, names_of}
use Rattle.shell_script.specs.Lines.{first_line, is_kept, kept_lines}
use Rattle.shell_script.specs.Session.{Adds, AllAsk, AreGood, IsAdded, IsBadBehind, IsGood, IsStart, name_of, names_begun, names_behind}
use Rattle.shell_script.specs.Script.{AreParsed, AreSessions, IsFirstBad, IsSession}
use Rattle.shell_script.proofs.LineLemmas.{lines-first_line}

-- no line is longer than this
abbrev pub AreShort : ℕ → List (ℕ × List ℕ) → Type 0
AreShort limit listed = AllByRecursion (λ (line : ℕ × List ℕ). length line.1 ≤ limit) listed

-- so many lines were looked at, with those that count, and these bytes are left
pub record IsListed (bytes : List ℕ) (listed : List (ℕ × List ℕ)) (number : ℕ) (rest : List ℕ) : Type 0 where
  pub whole : kept_lines 1 bytes ≡ listed ++ kept_lines (number + 1) rest
  pub few : length listed ≤ number
  pub short : AreShort (length bytes) listed

pub IsListed-start : (bytes : List ℕ) → IsListed bytes [] 0 bytes
IsListed-start bytes = record { whole = refl; few = omega arith; short = tt }

-- the first line of what is left
kept : (n : ℕ) (rest : List ℕ) → 0 < length rest →
    kept_lines n rest ≡ cond (is_kept (first_line rest)) ((n, first_line rest) ∷ kept_lines (n + 1) (behind 10 rest)) (kept_lines (n + 1) (behind 10 rest))
kept n rest some = ap (λ (l : List (List ℕ)). filter (λ (numbered : ℕ × List ℕ). is_kept numbered.1) (enumerate_from n l)) (lines-first_line rest some)

pub IsListed-skip : (bytes : List ℕ) (listed : List (ℕ × List ℕ)) (number : ℕ) (rest : List ℕ) → 0 < length rest → is_kept (first_line rest) ≡ false →
    IsListed bytes listed number rest → IsListed bytes listed (number + 1) (behind 10 rest)
IsListed-skip bytes listed number rest some none so_far =
    let few = so_far.few in
    record {
      whole = so_far.whole ∙ ap (λ (l : List (ℕ × List ℕ)). listed ++ l) (kept (number + 1) rest some ∙ cond_false (is_kept (first_line rest)) _ _ none);
      few = omega arith;
      short = so_far.short;
    }

AreShort-push : (limit : ℕ) (listed : List (ℕ × List ℕ)) (line : ℕ × List ℕ) → AreShort limit listed → length line.1 ≤ limit → AreShort limit (listed ++ line ∷ [])
AreShort-push limit [] line all short = (short, tt)
AreShort-push limit (l ∷ ls) line all short = (all.0, AreShort-push limit ls line all.1 short)

pub IsListed-push : (bytes : List ℕ) (listed : List (ℕ × List ℕ)) (number : ℕ) (rest : List ℕ) → 0 < length rest → is_kept (first_line rest) ≡ true → length (first_line rest) ≤ length bytes →
    IsListed bytes listed number rest → IsListed bytes (listed ++ (number + 1, first_line rest) ∷ []) (number + 1) (behind 10 rest)
IsListed-push bytes listed number rest some is short so_far =
    let line : ℕ × List ℕ = (number + 1, first_line rest) in
    let left = kept_lines (number + 1 + 1) (behind 10 rest) in
    let few = so_far.few in
    record {
      whole = so_far.whole ∙ ap (λ (l : List (ℕ × List ℕ)). listed ++ l) (kept (number + 1) rest some ∙ cond_true (is_kept (first_line rest)) _ _ is)
          ∙ sym (append_assoc listed (line ∷ []) left);
      few = omega (arith, length-append listed (line ∷ []));
      short = AreShort-push (length bytes) listed line so_far.short short;
    }

pub IsListed-all : (bytes : List ℕ) (listed : List (ℕ × List ℕ)) (number : ℕ) (rest : List ℕ) → rest ≡ [] → IsListed bytes listed number rest → listed ≡ kept_lines 1 bytes
IsListed-all bytes listed number rest none so_far =
    sym (so_far.whole ∙ ap (λ (l : List ℕ). listed ++ kept_lines (number + 1) l) none ∙ append-nil listed)

-- the lines were read as these sessions
pub record IsRead (kinds : List LineKind) (blocks : Bool) (front : List (ℕ × List ℕ)) (sessions : List Session) : Type 0 where
  pub good : AreGood kinds blocks [] front
  pub names : names_of blocks front ≡ names_begun blocks sessions
  pub parsed : AreParsed kinds blocks front sessions

pub IsRead-start : (kinds : List LineKind) (blocks : Bool) (sessions : List Session) → IsStart blocks sessions → IsRead kinds blocks [] sessions
IsRead-start kinds true sessions start = record {
  good = tt;
  names = sym (ap (map name_of) start);
  parsed = subst (AreSessions kinds []) (sym start) refl;
}
IsRead-start kinds false sessions start = record {
  good = tt;
  names = refl;
  parsed = (start.0, start.1, start.2, subst (AllAsk kinds []) (sym start.3) tt);
}

-- the names of lines, one by one
names_of-first : (blocks : Bool) (line : ℕ × List ℕ) (rest : List (ℕ × List ℕ)) (b : Bool) → begins blocks line.1 ≡ b →
    names_of blocks (line ∷ rest) ≡ cond b (block_name line.1 ∷ names_of blocks rest) (names_of blocks rest)
names_of-first blocks line rest true e = ap (map (λ (l : ℕ × List ℕ). block_name l.1)) (cond_true (begins blocks line.1) _ _ e)
names_of-first blocks line rest false e = ap (map (λ (l : ℕ × List ℕ). block_name l.1)) (cond_false (begins blocks line.1) _ _ e)

names_of-append : (blocks : Bool) (xs ys : List (ℕ × List ℕ)) → names_of blocks (xs ++ ys) ≡ names_of blocks xs ++ names_of blocks ys
names_of-append blocks xs ys =
    ap (map (λ (l : ℕ × List ℕ). block_name l.1)) (filter-append (λ (l : ℕ × List ℕ). begins blocks l.1) xs ys)
    ∙ map-append (λ (l : ℕ × List ℕ). block_name l.1) (filter (λ (l : ℕ × List ℕ). begins blocks l.1) xs) (filter (λ (l : ℕ × List ℕ). begins blocks l.1) ys)

behind_first : (blocks : Bool) (names : List (List ℕ)) (line : ℕ × List ℕ) (rest : List (ℕ × List ℕ)) (b : Bool) → begins blocks line.1 ≡ b →
    names ++ names_of blocks (line ∷ rest) ≡ names_behind blocks names line.1 ++ names_of blocks rest
behind_first blocks names line rest true e =
    ap (λ (l : List (List ℕ)). names ++ l) (names_of-first blocks line rest true e)
    ∙ sym (append_assoc names (block_name line.1 ∷ []) (names_of blocks rest))
    ∙ ap (λ (l : List (List ℕ)). l ++ names_of blocks rest) (sym (cond_true (begins blocks line.1) (names ++ block_name line.1 ∷ []) names e))
behind_first blocks names line rest false e =
    ap (λ (l : List (List ℕ)). names ++ l) (names_of-first blocks line rest false e)
    ∙ ap (λ (l : List (List ℕ)). l ++ names_of blocks rest) (sym (cond_false (begins blocks line.1) (names ++ block_name line.1 ∷ []) names e))

AreGood-push : (kinds : List LineKind) (blocks : Bool) (names : List (List ℕ)) (front : List (ℕ × List ℕ)) (line : ℕ × List ℕ) → AreGood kinds blocks names front →
    IsGood kinds blocks (names ++ names_of blocks front) line.1 → AreGood kinds blocks names (front ++ line ∷ [])
AreGood-push kinds blocks names [] line all good = (subst (λ (n : List (List ℕ)). IsGood kinds blocks n line.1) (append-nil names) good, tt)
AreGood-push kinds blocks names (l ∷ ls) line all good = (
  all.0,
  AreGood-push kinds blocks (names_behind blocks names l.1) ls line all.1
      (subst (λ (n : List (List ℕ)). IsGood kinds blocks n line.1) (behind_first blocks names l ls (begins blocks l.1) refl) good),
)

AllAsk-push : (kinds : List LineKind) (front : List (ℕ × List ℕ)) (jobs : List NumberedJob) (line : ℕ × List ℕ) (asked : NumberedJob) → AllAsk kinds front jobs →
    asked.line ≡ line.0 → Asks kinds line.1 asked.job → AllAsk kinds (front ++ line ∷ []) (jobs ++ asked ∷ [])
AllAsk-push kinds [] [] line asked all number asks = (number, asks, tt)
AllAsk-push kinds [] (j ∷ js) line asked all number asks = absurd all
AllAsk-push kinds (l ∷ ls) [] line asked all number asks = absurd all
AllAsk-push kinds (l ∷ ls) (j ∷ js) line asked all number asks = (all.0, all.1, AllAsk-push kinds ls js line asked all.2 number asks)

-- a session more
AreSessions-begun : (kinds : List LineKind) (front mid : List (ℕ × List ℕ)) (sessions : List Session) (session : Session) → AreSessions kinds front sessions → IsSession kinds mid session →
    AreSessions kinds (front ++ mid) (sessions ++ session ∷ [])
AreSessions-begun kinds front mid [] session all is = (mid, [], ap (λ (l : List (ℕ × List ℕ)). l ++ mid) all ∙ sym (append-nil mid), is, refl)
AreSessions-begun kinds front mid (s ∷ ss) session all is = (
  all.0,
  all.1 ++ mid,
  ap (λ (l : List (ℕ × List ℕ)). l ++ mid) all.2 ∙ append_assoc all.0 all.1 mid,
  all.3,
  AreSessions-begun kinds all.1 mid ss session all.4 is,
)

-- a job more in the last session
IsSession-push : (kinds : List LineKind) (mid : List (ℕ × List ℕ)) (line : ℕ × List ℕ) (job : NumberedJob) (before after : Session) → after.name ≡ before.name →
    after.lines ≡ before.lines ++ job ∷ [] → job.line ≡ line.0 → Asks kinds line.1 job.job → IsSession kinds mid before → IsSession kinds (mid ++ line ∷ []) after
IsSession-push kinds mid line job before after named jobs number asks is = record {
  number = is.number;
  text = is.text;
  more = is.more ++ line ∷ [];
  whole = ap (λ (l : List (ℕ × List ℕ)). l ++ line ∷ []) is.whole;
  block = is.block;
  named = named ∙ is.named;
  asked = subst (AllAsk kinds (is.more ++ line ∷ [])) (sym jobs) (AllAsk-push kinds is.more before.lines line job is.asked number asks);
}

AreSessions-push : (kinds : List LineKind) (lines : List (ℕ × List ℕ)) (line : ℕ × List ℕ) (job : NumberedJob) (front : List Session) (before after : Session) → after.name ≡ before.name →
    after.lines ≡ before.lines ++ job ∷ [] → job.line ≡ line.0 → Asks kinds line.1 job.job → AreSessions kinds lines (front ++ before ∷ []) →
    AreSessions kinds (lines ++ line ∷ []) (front ++ after ∷ [])
AreSessions-push kinds lines line job [] before after named jobs number asks all = (
  lines ++ line ∷ [],
  [],
  sym (append-nil (lines ++ line ∷ [])),
  IsSession-push kinds lines line job before after named jobs number asks
      (subst (λ (l : List (ℕ × List ℕ)). IsSession kinds l before) (sym (all.2 ∙ ap (λ (l : List (ℕ × List ℕ)). all.0 ++ l) all.4 ∙ append-nil all.0)) all.3),
  refl,
)
AreSessions-push kinds lines line job (s ∷ ss) before after named jobs number asks all = (
  all.0,
  all.1 ++ line ∷ [],
  ap (λ (l : List (ℕ × List ℕ)). l ++ line ∷ []) all.2 ∙ append_assoc all.0 all.1 (line ∷ []),
  all.3,
  AreSessions-push kinds all.1 line job ss before after named jobs number asks all.4,
)

-- the one session of a script without blocks
only_one : (session before : Session) (front : List Session) → session ∷ [] ≡ front ++ before ∷ [] → (front ≡ []) × (session ≡ before)
only_one session before [] e = (refl, cc)
only_one session before (s ∷ []) e = absurd (cc)
only_one session before (s ∷ t ∷ ts) e = absurd (cc)

no_blocks : (line : List ℕ) → begins false line ≡ true → ⊥
no_blocks line e = cc e

names_added : (blocks : Bool) (front : List (ℕ × List ℕ)) (line : ℕ × List ℕ) (b : Bool) → begins blocks line.1 ≡ b →
    names_of blocks (front ++ line ∷ []) ≡ names_of blocks front ++ cond b (block_name line.1 ∷ []) []
names_added blocks front line true e = names_of-append blocks front (line ∷ []) ∙ ap (λ (l : List (List ℕ)). names_of blocks front ++ l) (names_of-first blocks line [] true e)
names_added blocks front line false e = names_of-append blocks front (line ∷ []) ∙ ap (λ (l : List (List ℕ)). names_of blocks front ++ l) (names_of-first blocks line [] false e)

good_then : (kinds : List LineKind) (blocks : Bool) (front : List (ℕ × List ℕ)) (old : List Session) (line : ℕ × List ℕ) → IsRead kinds blocks front old →
    IsGood kinds blocks (names_begun blocks old) line.1 → AreGood kinds blocks [] (front ++ line ∷ [])
good_then kinds blocks front old line read good =
    AreGood-push kinds blocks [] front line read.good (subst (λ (n : List (List ℕ)). IsGood kinds blocks n line.1) (sym read.names) good)

names_kept : (old new : List Session) (job : NumberedJob) → Adds old job new → map name_of new ≡ map name_of old
names_kept old new job adds =
    ap (map name_of) adds.is ∙ map-append name_of adds.front (adds.after ∷ []) ∙ ap (λ (n : List ℕ). map name_of adds.front ++ n ∷ []) adds.named
    ∙ sym (map-append name_of adds.front (adds.before ∷ [])) ∙ sym (ap (map name_of) adds.was)

pub IsRead-step : (kinds : List LineKind) (blocks : Bool) (front : List (ℕ × List ℕ)) (old new : List Session) (line : ℕ × List ℕ) → IsRead kinds blocks front old →
    IsAdded kinds blocks old line new → IsGood kinds blocks (names_begun blocks old) line.1 → IsRead kinds blocks (front ++ line ∷ []) new
IsRead-step kinds true front old new line read (inl added) good =
    let session = added.1.0 in
    let is : new ≡ old ++ session ∷ [] = added.1.1 in
    record {
      good = good_then kinds true front old line read good;
      names = names_added true front line true added.0 ∙ ap (λ (l : List (List ℕ)). l ++ block_name line.1 ∷ []) read.names
          ∙ ap (λ (n : List ℕ). map name_of old ++ n ∷ []) (sym added.1.2) ∙ sym (ap (map name_of) is ∙ map-append name_of old (session ∷ []));
      parsed = subst (AreSessions kinds (front ++ line ∷ [])) (sym is) (AreSessions-begun kinds front (line ∷ []) old session read.parsed (record {
        number = line.0;
        text = line.1;
        more = [];
        whole = refl;
        block = added.0;
        named = added.1.2;
        asked = subst (AllAsk kinds []) (sym added.1.3) tt;
      }));
    }
IsRead-step kinds true front old new line read (inr added) good =
    let job = added.1 in
    let adds = added.2 in
    record {
      good = good_then kinds true front old line read good;
      names = names_added true front line false added.0 ∙ append-nil (names_of true front) ∙ read.names ∙ sym (names_kept old new job adds);
      parsed = subst (AreSessions kinds (front ++ line ∷ [])) (sym adds.is)
          (AreSessions-push kinds front line job adds.front adds.before adds.after adds.named adds.jobs added.3 added.4 (subst (AreSessions kinds front) adds.was read.parsed));
    }
IsRead-step kinds false front old new line read (inl added) good = absurd (no_blocks line.1 added.0)
IsRead-step kinds false front old new line read (inr added) good =
    let job = added.1 in
    let adds = added.2 in
    let session = read.parsed.0 in
    let one = only_one session adds.before adds.front (sym read.parsed.1 ∙ adds.was) in
    let is : new ≡ adds.after ∷ [] = adds.is ∙ ap (λ (l : List Session). l ++ adds.after ∷ []) one.0 in
    let jobs : adds.after.lines ≡ session.lines ++ job ∷ [] = adds.jobs ∙ ap (λ (s : Session). s.lines ++ job ∷ []) (sym one.1) in
    record {
      good = good_then kinds false front old line read good;
      names = names_added false front line false added.0 ∙ append-nil (names_of false front) ∙ read.names;
      parsed = (
        adds.after,
        is,
        adds.named ∙ ap name_of (sym one.1) ∙ read.parsed.2,
        subst (AllAsk kinds (front ++ line ∷ [])) (sym jobs) (AllAsk-push kinds front session.lines line job read.parsed.3 added.3 added.4),
      );
    }

-- the line that is read next is the first bad one
pub IsFirstBad-IsRead : (kinds : List LineKind) (blocks : Bool) (lines : List (ℕ × List ℕ)) (i : ℕ) (line : ℕ × List ℕ) (sessions : List Session) (session at : ℕ) → i < length lines →
    line ≡ get_or lines i line → IsRead kinds blocks (take i lines) sessions → session ≡ length (names_begun blocks sessions) →
    IsBadBehind kinds blocks (names_begun blocks sessions) line.1 at → IsFirstBad kinds blocks lines session line.0 (at + 1)
IsFirstBad-IsRead kinds blocks lines i line sessions session at below is read begun bad = record {
  front = take i lines;
  text = line.1;
  back = drop (i + 1) lines;
  at = at;
  whole = sym (take-append-drop i lines) ∙ ap (λ (l : List (ℕ × List ℕ)). take i lines ++ l) (drop_more lines i line below ∙ ap (λ (x : ℕ × List ℕ). x ∷ drop (i + 1) lines) (sym is));
  good = read.good;
  begun = begun ∙ ap length (sym read.names);
  bad = subst (λ (n : List (List ℕ)). IsBadBehind kinds blocks n line.1 at) (sym read.names) bad;
  column_is = refl;
}

-- lines are not all good where one is bad
later_good : (kinds : List LineKind) (blocks : Bool) (names : List (List ℕ)) (front back : List (ℕ × List ℕ)) (line : ℕ × List ℕ) → AreGood kinds blocks names (front ++ line ∷ back) →
    IsGood kinds blocks (names ++ names_of blocks front) line.1
later_good kinds blocks names [] back line all = subst (λ (n : List (List ℕ)). IsGood kinds blocks n line.1) (sym (append-nil names)) all.0
later_good kinds blocks names (l ∷ ls) back line all =
    subst (λ (n : List (List ℕ)). IsGood kinds blocks n line.1) (sym (behind_first blocks names l ls (begins blocks l.1) refl))
    (later_good kinds blocks (names_behind blocks names l.1) ls back line all.1)

true_false : (b : Bool) → b ≡ true → b ≡ false → ⊥
true_false true e f = absurd (cc)
true_false false e f = absurd (cc)

not_good : (kinds : List LineKind) (blocks : Bool) (names : List (List ℕ)) (text : List ℕ) (at : ℕ) → IsGood kinds blocks names text → IsBadBehind kinds blocks names text at → ⊥
not_good kinds blocks names text at good (inl fault) = fault.not_spelled good.allowed
not_good kinds blocks names text at good (inr used) = true_false (is_used names (block_name text)) used.1 (good.fresh used.0)

pub not_both : (kinds : List LineKind) (blocks : Bool) (lines : List (ℕ × List ℕ)) (session line column : ℕ) → AreGood kinds blocks [] lines → IsFirstBad kinds blocks lines session line column → ⊥
not_both kinds blocks lines session line column good bad =
    not_good kinds blocks (names_of blocks bad.front) bad.text bad.at
    (later_good kinds blocks [] bad.front bad.back (line, bad.text) (subst (AreGood kinds blocks []) bad.whole good)) bad.bad
