mod EachHart
mod EmptyHarts
mod FreeHarts
