-- `by_kind` meets its contract.
use Rattle.json_header.proofs.header.by_kind.Goals as goal

pub returns-in-String : goal.returns-in-String
returns-in-String c = rw c.in-String.is

pub returns-in-Number : goal.returns-in-Number
returns-in-Number c = rw c.in-Number.is

pub returns-in-True : goal.returns-in-True
returns-in-True c = rw c.in-True.is

pub returns-in-False : goal.returns-in-False
returns-in-False c = rw c.in-False.is

pub returns-in-Null : goal.returns-in-Null
returns-in-Null c = rw c.in-Null.is

pub returns-in-Array : goal.returns-in-Array
returns-in-Array c = rw c.in-Array.is

pub returns-in-Object : goal.returns-in-Object
returns-in-Object c = rw c.in-Object.is
