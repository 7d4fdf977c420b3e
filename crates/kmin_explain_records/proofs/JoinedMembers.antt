-- Members that are written in four parts.
use Rattle.std.proofs.Common.{Result, OnOk}
use Rattle.kmin_explain_records.proofs.Common.{ℕ, List, ◌++◌, Json, AppendsTokens, and_then, and_last, list_tokens, as_last}
use Rattle.json.specs.Written.{Written}
use Rattle.kmin_records.proofs.JsonLists.{members_joined}

-- four parts are all of it, of which the last may fail
pub four_parts : {E : Type 0} (r : Result (Unit {0}) E) (old first second third new : Written) (ks ls ms ns : List (List ℕ × Json))
    → AppendsTokens old first (list_tokens ks) → AppendsTokens first second (list_tokens ls) → AppendsTokens second third (list_tokens ms)
    → OnOk r (AppendsTokens third new (list_tokens ns)) → OnOk r (AppendsTokens old new (list_tokens (ks ++ (ls ++ (ms ++ ns)))))
four_parts r old first second third new ks ls ms ns k l m n =
    as_last r old new ((list_tokens ks ++ (list_tokens ls ++ list_tokens ms)) ++ list_tokens ns) (list_tokens (ks ++ (ls ++ (ms ++ ns)))) (members_joined ks ls ms ns)
    (and_last r old third new (list_tokens ks ++ (list_tokens ls ++ list_tokens ms)) (list_tokens ns)
    (and_then old first third (list_tokens ks) (list_tokens ls ++ list_tokens ms) k (and_then first second third (list_tokens ls) (list_tokens ms) l m)) n)
